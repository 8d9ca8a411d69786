use Rattle.gate_graph.specs.Circuit.{net_of}
use Rattle.implications.proofs.SettledNodes.{next_of, parity_gate, settled_parity}
use Rattle.implications.proofs.next_line.parity_line.Goals as goal
use Rattle.implications.specs.Inner.Pulls.{AreDoneParity}

pub equal_line-requires-clause-kind : goal.equal_line-requires-clause-kind
equal_line-requires-clause-kind c = (c.requires.kind.0, (c.requires.kind.1, parity_gate c.requires.kind.0 c.args.inverts c.requires.kind.2))

pub returns : goal.returns
returns c =
    next_of (net_of c.args.question.now.graph.now) c.args.question.now.fault c.args.facts.now c.args.node.0 (AreDoneParity (net_of c.args.question.now.graph.now) c.args.question.now.fault c.args.facts.now c.args.node) c.parity_equal_line.result
    (λ last. settled_parity (net_of c.args.question.now.graph.now) c.args.question.now.fault c.args.facts.now c.args.node c.in_default.ensures c.args.inverts c.requires.kind c.in_default-parity_good_line.ensures c.in_default-parity_faulty_line.ensures c.in_default-equal_line.ensures last) c.parity_equal_line.ensures
