use Rattle.std.proofs.Common.{refl}
use Rattle.std.specs.Fmt.{digits}
use Rattle.wire_edit.specs.Order.{rule_at}
use Rattle.graph_to_model.proofs.laws.worked_rows.Goals as goal

pub returns-clause-r2 : goal.returns-clause-r2
unfolding digits
returns-clause-r2 c = refl

pub returns-clause-r5 : goal.returns-clause-r5
unfolding digits
returns-clause-r5 c = refl

pub returns-clause-prefix : goal.returns-clause-prefix
unfolding digits
returns-clause-prefix c = refl

pub returns-clause-not_tidy : goal.returns-clause-not_tidy
unfolding rule_at
returns-clause-not_tidy c = refl

pub returns-clause-agree : goal.returns-clause-agree
unfolding digits
returns-clause-agree c = refl

pub returns-clause-agree_again : goal.returns-clause-agree_again
unfolding digits
returns-clause-agree_again c = refl
