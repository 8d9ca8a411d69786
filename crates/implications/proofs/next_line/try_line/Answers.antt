use Rattle.std.proofs.Common.{arith, length, sym, ◌<◌}
use Rattle.gate_graph.specs.Circuit.{net_of}
use Rattle.implications.proofs.Begins.{answer_some}
use Rattle.refutation.proofs.Public.{concludes_below, concludes_live}
use Rattle.implications.proofs.next_line.try_line.Goals as goal
use Rattle.refutation.specs.FactSets.{held_by}
use Rattle.refutation.specs.Lines.{Concludes}

pub holds-requires : goal.holds-requires
holds-requires c =
    let gives : Concludes (net_of c.args.question.now.graph.now) c.args.question.now.fault (held_by c.args.facts.now) c.args.line c.in_ok-node.node.0 c.in_ok-node.fact = answer_some (net_of c.args.question.now.graph.now) c.args.question.now.fault (held_by c.args.facts.now) c.args.line c.args.given (c.in_ok-node.node, c.in_ok-node.fact) c.in_ok-node.was c.requires.given in
    let below : c.in_ok-node.node.0 < length (net_of c.args.question.now.graph.now).nodes = concludes_below (net_of c.args.question.now.graph.now) c.args.question.now.fault (held_by c.args.facts.now) c.requires.ready.formed c.requires.ready.stuck c.args.line c.in_ok-node.node.0 c.in_ok-node.fact gives in
    omega (arith, c.requires.ready.size)

pub returns : goal.returns
returns c =
    let gives : Concludes (net_of c.args.question.now.graph.now) c.args.question.now.fault (held_by c.args.facts.now) c.args.line c.in_ok-node.node.0 c.in_ok-node.fact = answer_some (net_of c.args.question.now.graph.now) c.args.question.now.fault (held_by c.args.facts.now) c.args.line c.args.given (c.in_ok-node.node, c.in_ok-node.fact) c.in_ok-node.was c.requires.given in
    record {
      gives = gives;
      new = sym c.if-holds.ensures;
      live = concludes_live (net_of c.args.question.now.graph.now) c.args.question.now.fault (held_by c.args.facts.now) c.requires.ready.formed c.requires.ready.stuck c.args.line c.in_ok-node.node.0 c.in_ok-node.fact gives;
    }
