use Rattle.std.proofs.Common.{◌≡◌, ◌++◌, ℕ, map, Some, false}
use Rattle.std.specs.Prelude.{slice_get}
use Rattle.rm_base.specs.declared.numbers.NodeId.{NodeId}
use Rattle.gate_net.specs.Forward.{both_known_different}
use Rattle.ternary_sim.specs.Marks.{good_at, faulty_at}
use Rattle.ternary_sim.proofs.simulator.Sim.is_detected.Given as goal

abbrev pub invariant-loop-node : goal.invariant-loop-node
invariant-loop-node l = record {
  all : l.initial.node-iterator ≡ map (λ d. d.0) l.yielded ++ l.node-iterator;
  same : (k : ℕ) (d : NodeId) → slice_get l.yielded k ≡ Some d → both_known_different (good_at l.self.marks d.0) (faulty_at l.self.marks d.0) ≡ false;
}
