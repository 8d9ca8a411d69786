use Rattle.std.proofs.Common.{◌≡◌, ◌<◌, ℕ, length}
use Rattle.graph_to_model.specs.Inner.Making.{name_by, named}
use Rattle.graph_to_model.proofs.naming.names_by.Given as goal

abbrev pub invariant-loop-node : goal.invariant-loop-node
invariant-loop-node l = record {
  count : length l.names.items ≡ l.node;
  each : (n : ℕ) → n < l.node → named l.names.items n ≡ name_by l.sources l.observed l.places l.prefix n;
}
