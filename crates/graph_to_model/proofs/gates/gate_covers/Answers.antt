use Rattle.std.proofs.Common.{◌<◌, length, arith}
use Rattle.gate_graph.specs.Circuit.{net_of}
use Rattle.graph_to_model.proofs.Steps.{covers_step}
use Rattle.graph_to_model.proofs.gates.gate_covers.Goals as goal

pub loop-number-preserved : goal.loop-number-preserved
loop-number-preserved c =
    let low : c.loop-number.number < length (net_of c.args.graph.now).nodes = omega arith in
    covers_step c.args.names.now (net_of c.args.graph.now) c.loop-number.number c.loop-number.covers.items _ _ _ low c.in_ok-cover_at.ensures c.in_ok-push_some.ensures c.loop-number.invariant
