use Rattle.std.proofs.Common.{sym, ◌∙◌}
use Rattle.gate_graph.specs.Circuit.{net_of}
use Rattle.fault_decision.proofs.goals.open_goal.Goals as goal
use Rattle.refutation.proofs.Public.{live_from}

pub returns : goal.returns
returns c = record {
  live = live_from (net_of c.args.graph.now) c.args.goal.node.0 c.kind.result c.in-Some-kind._kind c.kind.ensures c.in-Some-kind.is;
  unknown = sym c.known_of.ensures ∙ c.in_default.is;
}
