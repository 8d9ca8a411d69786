use Rattle.gate_graph.proofs.SameWired.{same-wiring}
use Rattle.gate_graph.proofs.state.same_wiring.Goals as goal

pub returns : goal.returns
returns c = same-wiring
