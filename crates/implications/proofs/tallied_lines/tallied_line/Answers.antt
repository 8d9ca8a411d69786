use Rattle.gate_graph.specs.Circuit.{net_of}
use Rattle.implications.proofs.SettledNodes.{next_of, settled_junction}
use Rattle.implications.proofs.tallied_lines.tallied_line.Goals as goal
use Rattle.implications.specs.Inner.Pulls.{AreDoneSide}

pub returns : goal.returns
returns c =
    next_of (net_of c.args.question.now.graph.now) c.args.question.now.fault c.args.facts.now c.args.node.0 (AreDoneSide (net_of c.args.question.now.graph.now) c.args.question.now.fault c.args.facts.now c.args.node) c.tallied_side_line.result
    (λ last. settled_junction (net_of c.args.question.now.graph.now) c.args.question.now.fault c.args.facts.now c.args.node c.in_default.ensures c.args.c c.requires.kind c.in_default-tallied_good_line.ensures c.in_default-tallied_faulty_line.ensures c.in_default-tallied_equal_line.ensures last) c.tallied_side_line.ensures
