use Rattle.std.proofs.Common.{◌↔◌}
use Rattle.gate_graph.specs.Circuit.{net_of}
use Rattle.gate_net.specs.Values.{Detects, HasPin}
use Rattle.fault_sim.specs.Words.{assignment}
use Rattle.journal_check.proofs.tracing.trace.Given as goal

abbrev pub invariant-loop : goal.invariant-loop
invariant-loop l = record {
  pin : HasPin (net_of l.graph) l.fault;
  same : Detects (net_of l.graph) l.fn.given (assignment l.lanes.words l.lane) ↔ Detects (net_of l.graph) l.fault (assignment l.lanes.words l.lane);
}
