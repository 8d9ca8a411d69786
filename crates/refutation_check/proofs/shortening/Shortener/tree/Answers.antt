use Rattle.gate_graph.specs.Circuit.{net_of}
use Rattle.refutation.proofs.Public.{gate_live}
use Rattle.refutation_check.proofs.shortening.Shortener.tree.Goals as goal

pub mark-requires-clause-gate : goal.mark-requires-clause-gate
mark-requires-clause-gate c = gate_live (net_of c.args.question.now.graph.now) c.args.question.now.fault c.args.question.now.pin
