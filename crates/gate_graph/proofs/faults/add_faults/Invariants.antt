use Rattle.std.proofs.Common.{◌≡◌, ◌-◌, ◌++◌}
use Rattle.gate_net.specs.Faults.{pin_faults}
use Rattle.gate_graph.proofs.faults.add_faults.Given as goal

abbrev pub invariant-loop-position : goal.invariant-loop-position
invariant-loop-position l =
    l.faults.items ++ pin_faults l.fn.gate.0 l.position (l.count - l.position) ≡ l.initial.faults.items ++ pin_faults l.fn.gate.0 0 (l.count - 0)
