use Rattle.gate_graph.proofs.Listed.{readers-listed}
use Rattle.gate_graph.proofs.state.Graph.readers_listed.Goals as goal

pub returns : goal.returns
returns c = readers-listed c.args.self.now c.tell.ensures.rings c.tell.ensures.graph.wired.shape
