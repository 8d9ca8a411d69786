use Rattle.std.proofs.Common.{◌≡◌, length}
use Rattle.gate_graph.specs.Circuit.{net_of}
use Rattle.candidate_wires.proofs.Walking.{IsWalked}
use Rattle.candidate_wires.proofs.listing.along_chain.Given as goal

abbrev pub invariant-loop-step : goal.invariant-loop-step
invariant-loop-step l = record {
  walked : IsWalked (net_of l.question.graph.now) l.question.fault.gate.0 l.at.0 l._step l.reached l.sources l.found.items;
  marks : length l.reached ≡ length l.fn.reached;
  room : length l.driving ≡ length l.fn.driving;
}
