use Rattle.std.proofs.Common.{◌≡◌, ◌++◌, ℕ, map, true, Some}
use Rattle.std.specs.Prelude.{slice_get}
use Rattle.rm_base.specs.declared.numbers.NodeId.{NodeId}
use Rattle.ternary_sim.specs.Marks.{equal_at}
use Rattle.ternary_sim.proofs.marks.all_equal.Given as goal

abbrev pub invariant-loop-driver : goal.invariant-loop-driver
invariant-loop-driver l = record {
  all : l.fn.drivers ≡ map (λ d. d.0) l.yielded ++ l.driver-iterator;
  equal : (k : ℕ) (d : NodeId) → slice_get l.yielded k ≡ Some d → equal_at l.marks d.0 ≡ true;
}
