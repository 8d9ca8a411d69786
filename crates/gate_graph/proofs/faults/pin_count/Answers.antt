use Rattle.std.proofs.Common.{sym, ◌∙◌}
use Rattle.gate_graph.specs.Circuit.{net_of}
use Rattle.gate_graph.proofs.FaultLists.{no_pins, live_kind}
use Rattle.gate_graph.proofs.faults.pin_count.Goals as goal

pub returns-in-None : goal.returns-in-None
returns-in-None c = sym (no_pins (net_of c.args.graph.now) c.args.node.0 (sym c.kind.ensures ∙ c.in-None.is))

pub input_count-requires : goal.input_count-requires
input_count-requires c = live_kind (net_of c.args.graph.now) c.args.node.0 _ (sym c.kind.ensures ∙ c.in-Some.is)
