use Rattle.gate_graph.proofs.PinsFrom.{listed-there}
use Rattle.gate_graph.proofs.rings.unlink_at.Goals as goal

pub unlink_at-requires : goal.unlink_at-requires
unlink_at-requires c = listed-there c.args.pool.now c.args.gate c.args.position c.args.pin.0 c.requires
