use Rattle.std.proofs.Common.{◌∙◌, sym}
use Rattle.gate_graph.specs.Circuit.{net_of}
use Rattle.gate_graph.proofs.FaultLists.{live_kind, pins_added}
use Rattle.gate_graph.proofs.faults.add_faults.Goals as goal

pub input_count-count-requires : goal.input_count-count-requires
input_count-count-requires c = live_kind (net_of c.args.graph.now) c.args.gate.0 c.in-Some._kind (sym c.in-Some.ensures)

pub loop-position-preserved : goal.loop-position-preserved
loop-position-preserved c =
    pins_added c.args.gate.0 c.loop-position.position c.input_count-count.result c.loop-position.faults.items c.add_pin.new.faults.items c.loop-position-test.true c.in_ok-add_pin.ensures ∙ c.loop-position.invariant
