use Rattle.gate_graph.specs.Circuit.{net_of}
use Rattle.implications.proofs.SettledNodes.{next_of, settled_plain}
use Rattle.implications.proofs.next_line.plain_line.Goals as goal
use Rattle.implications.specs.Inner.Settled.{IsDone}
use Rattle.refutation.specs.FactSets.{held_by}
use Rattle.refutation.specs.declared.reasoning.Line.TheVariants.{Constant}

pub try_line-requires-clause-given : goal.try_line-requires-clause-given
try_line-requires-clause-given c = c.line_constant-given.ensures (held_by c.args.facts.now)

pub returns : goal.returns
returns c =
    next_of (net_of c.args.question.now.graph.now) c.args.question.now.fault c.args.facts.now c.args.node.0 (IsDone (net_of c.args.question.now.graph.now) c.args.question.now.fault c.args.facts.now (Constant c.args.node)) c.try_line.result
    (λ last. settled_plain (net_of c.args.question.now.graph.now) c.args.question.now.fault c.args.facts.now c.args.node c.in_default.ensures c.requires.kind.0 c.requires.kind.1.0 c.requires.kind.1.1 last) c.try_line.ensures
