use Rattle.std.proofs.Common.{◌≡◌, ◌++◌, drop}
use Rattle.graph_to_model.specs.Inner.Making.{copies_by}
use Rattle.graph_to_model.proofs.copies.copies.Given as goal

abbrev pub invariant-loop-at : goal.invariant-loop-at
invariant-loop-at l = l.covers.items ++ copies_by l.names l.had (drop l.at l.nodes) (drop l.at l.observed) ≡ copies_by l.names l.initial.had l.nodes l.observed
