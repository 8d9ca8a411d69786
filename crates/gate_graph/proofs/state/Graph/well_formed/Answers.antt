use Rattle.std.proofs.Common.{arith}
use Rattle.gate_graph.proofs.Formed.{well-formed}
use Rattle.gate_graph.proofs.Bounded.{bound-within}
use Rattle.gate_graph.proofs.Counted.{numbers-are, wires-few}
use Rattle.gate_graph.proofs.HeldPins.{held-are, wires-all}
use Rattle.gate_graph.proofs.Numbers.{free-within}
use Rattle.gate_graph.proofs.state.Graph.well_formed.Goals as goal

pub returns-clause-net : goal.returns-clause-net
returns-clause-net c = well-formed c.args.self.now c.tell.ensures.rings c.tell.ensures.graph.wired

pub returns-clause-nodes : goal.returns-clause-nodes
returns-clause-nodes c = omega (arith, c.tell.ensures.graph.few, bound-within c.args.self.now)

pub returns-clause-live : goal.returns-clause-live
returns-clause-live c = omega (arith, numbers-are c.args.self.now c.tell.ensures.graph.wired.shape)

pub returns-clause-pins : goal.returns-clause-pins
returns-clause-pins c = wires-few c.args.self.now c.tell.ensures.rings c.tell.ensures.graph.wired.shape

pub returns-clause-room : goal.returns-clause-room
returns-clause-room c = omega (arith, c.tell.ensures.graph.few, free-within c.args.self.now.kinds)

pub returns-clause-held : goal.returns-clause-held
returns-clause-held c = omega (arith, held-are c.args.self.now c.tell.ensures.rings c.tell.ensures.graph, wires-all c.args.self.now c.tell.ensures.graph)
