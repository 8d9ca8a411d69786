use Rattle.wire_edit.proofs.Ordering.{next_applies, tidy_refuses, refuses_tidy}
use Rattle.wire_edit.proofs.laws.order_tells.Goals as goal

pub returns-clause-next : goal.returns-clause-next
returns-clause-next c = next_applies

pub returns-clause-tidy : goal.returns-clause-tidy
returns-clause-tidy c = λ net. (tidy_refuses net, refuses_tidy net)
