use Rattle.std.proofs.Common.{get_or, ◌∙◌, ◌≡◌}
use Rattle.refutation.proofs.Public.{read_is}
use Rattle.recursive_learning.proofs.Indexes.{watched_last}
use Rattle.recursive_learning.proofs.resting.Rests.add.Goals as goal

pub returns-then-is_of_gate-clause-watched : goal.returns-then-is_of_gate-clause-watched
returns-then-is_of_gate-clause-watched c =
    let before : get_or c.self.inside.last.items c.args.place.0 0 ≡ c.index-number.result.now = read_is c.self.inside.last.items c.args.place.0 c.index-number.result.now (rw (← c.self.view_is) at c.requires.place) c.index-number.ensures in
    let at = c.is_of_gate.ensures c.if-is_of_gate.true in
    rw (← c.self.view_is) (watched_last c.self.inside.entries.items c.self.inside.last.items c.args.place.0 c.args.gate.0 at.0 at.1.0 c.self.invariant (rw (← c.self.view_is) at c.requires.place) (before ∙ at.1.1.0) (rw c.deref.ensures.value at at.1.1.1.0) at.1.1.1.1)
