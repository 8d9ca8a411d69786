use Rattle.std.proofs.Common.{◌≡◌, ◌++◌, ℕ, map, Some, true}
use Rattle.std.specs.Prelude.{slice_get}
use Rattle.rm_base.specs.declared.numbers.NodeId.{NodeId}
use Rattle.ternary_sim.specs.Marks.{equal_at}
use Rattle.ternary_sim.proofs.simulator.Sim.quiet.Given as goal

abbrev pub invariant-loop-node : goal.invariant-loop-node
invariant-loop-node l = record {
  all : l.initial.node-iterator ≡ map (λ d. d.0) l.yielded ++ l.node-iterator;
  equal : (k : ℕ) (d : NodeId) → slice_get l.yielded k ≡ Some d → equal_at l.self.marks d.0 ≡ true;
}
