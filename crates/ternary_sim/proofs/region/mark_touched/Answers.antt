use Rattle.std.proofs.Common.{arith, length, ◌<◌}
use Rattle.gate_graph.specs.Circuit.{net_of}
use Rattle.local_evaluation.proofs.Public.{kind_live, reached_live}
use Rattle.ternary_sim.proofs.region.mark_touched.Goals as goal

pub mark_all-requires-clause-marks : goal.mark_all-requires-clause-marks
mark_all-requires-clause-marks c p x e =
    let below : x < length (net_of c.args.graph.now).nodes = kind_live (net_of c.args.graph.now) x (reached_live (net_of c.args.graph.now) c.args.gate.0 x (c.requires.site.sound x (c.reached_numbers.ensures.sound p x e))) in
    omega (arith, below, c.requires.marks, c.mark_one.ensures.size)

pub mark_all-requires-clause-waiting : goal.mark_all-requires-clause-waiting
mark_all-requires-clause-waiting c p x e =
    let below : x < length (net_of c.args.graph.now).nodes = kind_live (net_of c.args.graph.now) x (reached_live (net_of c.args.graph.now) c.args.gate.0 x (c.requires.site.sound x (c.reached_numbers.ensures.sound p x e))) in
    omega (arith, below, c.requires.waiting, c.mark_one.ensures.room)
