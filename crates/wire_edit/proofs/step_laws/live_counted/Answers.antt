use Rattle.std.proofs.Common.{◌∙◌, sym}
use Rattle.gate_graph.specs.Circuit.{net_of}
use Rattle.wire_edit.proofs.LiveNodes.{live_counted}
use Rattle.wire_edit.proofs.step_laws.live_counted.Goals as goal

pub returns : goal.returns
returns c = c.well_formed-2.ensures.live ∙ sym (live_counted (net_of c.args.graph.now) c.well_formed-2.ensures.net)
