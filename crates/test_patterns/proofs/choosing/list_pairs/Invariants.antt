use Rattle.std.proofs.Common.{◌-◌, ◌≤◌, length}
use Rattle.gate_graph.specs.Circuit.{net_of}
use Rattle.fault_sim.specs.LaneStates.{Fits}
use Rattle.test_patterns.proofs.choosing.list_pairs.Given as goal

abbrev pub invariant-loop-from : goal.invariant-loop-from
invariant-loop-from l = Fits l.lanes (net_of l.known.graph.now) × (l.from ≤ length l.order)

abbrev pub decreases-loop-from : goal.decreases-loop-from
decreases-loop-from l = length l.order - l.from
