use Rattle.local_evaluation.proofs.Public.{unreached}
use Rattle.std.proofs.Common.{sym}
use Rattle.gate_graph.specs.Circuit.{net_of}
use Rattle.refutation.proofs.asking.AskedSite.is_reached.Goals as goal

pub returns-in_default-clause-reached : goal.returns-in_default-clause-reached
returns-in_default-clause-reached c = (λ e. cc, λ path. absurd (unreached (net_of c.args.graph.now) c.args.gate.0 c.args.node.0 (sym c.in_default.ensures) path))
