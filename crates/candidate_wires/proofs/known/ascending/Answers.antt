use Rattle.candidate_wires.proofs.InOrder.{sorted_ascends, sorted_has}
use Rattle.candidate_wires.proofs.known.ascending.Goals as goal

pub returns-clause-goods : goal.returns-clause-goods
returns-clause-goods c x value listed = sorted_has c.in_ok-numbers.numbers.items c.sort_unstable.new.self.items x c.sort_unstable.ensures.permutation (c.in_ok-numbers.ensures x value listed)

pub returns-clause-order : goal.returns-clause-order
returns-clause-order c = sorted_ascends c.sort_unstable.new.self.items c.sort_unstable.ensures.sorted
