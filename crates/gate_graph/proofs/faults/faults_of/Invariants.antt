use Rattle.std.proofs.Common.{◌≡◌, ◌++◌, drop}
use Rattle.gate_graph.specs.Circuit.{net_of}
use Rattle.gate_net.specs.Faults.{faults_from, faults_of}
use Rattle.gate_graph.proofs.faults.faults_of.Given as goal

abbrev pub invariant-loop-number : goal.invariant-loop-number
invariant-loop-number l = l.faults.items ++ faults_from l.number (drop l.number (net_of l.graph).nodes) ≡ faults_of (net_of l.graph)
