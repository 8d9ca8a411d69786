use Rattle.std.proofs.Common.{arith, refl}
use Rattle.gate_net.specs.Net.{drivers_of}
use Rattle.gate_graph.specs.Circuit.{net_of}
use Rattle.rm_base.proofs.Public.{stands_below}
use Rattle.rar_loop.proofs.perturbing.target_at.Goals as goal

pub returns : goal.returns
returns c = (stands_below (drivers_of (net_of c.args.graph.now) c.args.gate.0) c.args.position (omega (arith, c.if-position-pin_count.false, c.pin_count.ensures)), (refl, refl))
