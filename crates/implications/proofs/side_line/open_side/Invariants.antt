use Rattle.std.proofs.Common.{Some, length, map, ℕ, ◌++◌, ◌<◌, ◌≡◌}
use Rattle.std.specs.Prelude.{slice_get}
use Rattle.implications.proofs.side_line.open_side.Given as goal
use Rattle.implications.specs.Inner.Sides.{IsOpenPin}
use Rattle.refutation.specs.FactSets.{held_by}

abbrev pub invariant-loop-driver : goal.invariant-loop-driver
invariant-loop-driver l = record {
  all : l.fn.drivers ≡ map (λ d. d.0) l.yielded ++ l.driver-iterator;
  count : l.position ≡ length l.yielded;
  none : (q d : ℕ) → q < l.position → slice_get l.fn.drivers q ≡ Some d → IsOpenPin l.fault (held_by l.facts) l.fn.node.0 q d l.value → ⊥;
}
