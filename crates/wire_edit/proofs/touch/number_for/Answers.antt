use Rattle.gate_graph.specs.Circuit.{net_of}
use Rattle.wire_edit.specs.Inner.Changes.{least_free}
use Rattle.wire_edit.proofs.LiveNodes.{least_one, least_meets}
use Rattle.wire_edit.proofs.touch.number_for.Goals as goal

pub returns-in-NewNot : goal.returns-in-NewNot
returns-in-NewNot c = λ driver e. least_one (net_of c.args.graph.now) c.least_free.result.0 (least_free (net_of c.args.graph.now).nodes) c.least_free.ensures (least_meets (net_of c.args.graph.now))
