use Rattle.std.proofs.Common.{◌≡◌, true}
use Rattle.gate_graph.specs.Circuit.{net_of}
use Rattle.local_evaluation.proofs.OnlyReaders.{next_found}
use Rattle.local_evaluation.proofs.chains.next_in_chain.Goals as goal

pub returns : goal.returns
returns c = next_found (net_of c.args.graph.now) c.args.node.0 c.only_reader.result c.only_reader.ensures (λ observed. let wrong : c.is_observed.result ≡ true = c.is_observed.ensures.1 observed in cc)
