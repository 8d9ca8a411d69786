use Rattle.std.proofs.Common.{List, None, Option, Bool, map, subst}
use Rattle.gate_graph.specs.Circuit.{net_of}
use Rattle.gate_net.specs.Net.{drivers_of}
use Rattle.implications.proofs.Counted.{equals_counted}
use Rattle.implications.proofs.GateLines.{equal_done}
use Rattle.implications.proofs.done_lines.equal_is_done.Goals as goal
use Rattle.implications.specs.Inner.Pulls.{IsEqualPull}
use Rattle.refutation.specs.FactSets.{held_by}
use Rattle.refutation.specs.Facts.{known_equal}

pub returns : goal.returns
returns c e =
    let equals : List (Option Bool) = map (known_equal (held_by c.args.facts.now)) (drivers_of (net_of c.args.question.now.graph.now) c.args.node.0) in
    let f = equals_counted (held_by c.args.facts.now) c.requires.free c.args.question.now.fault.position (drivers_of (net_of c.args.question.now.graph.now) c.args.node.0) c.args.tally.now c.requires.tally in
    equal_done (net_of c.args.question.now.graph.now) c.args.question.now.fault c.args.facts.now c.requires.ready.formed c.requires.free c.args.node
    (subst (λ k. IsEqualPull equals k None) c.known_of.ensures (c.equal_pulls_nothing.ensures e equals (c.count_for-count.ensures.count equals f.0 f.1.0 f.1.1)))
