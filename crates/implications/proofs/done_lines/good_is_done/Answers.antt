use Rattle.std.proofs.Common.{List, None, Option, Bool, map, subst}
use Rattle.gate_graph.specs.Circuit.{net_of}
use Rattle.gate_net.specs.Net.{drivers_of}
use Rattle.implications.proofs.Counted.{goods_counted}
use Rattle.implications.proofs.GateLines.{good_done}
use Rattle.implications.proofs.done_lines.good_is_done.Goals as goal
use Rattle.implications.specs.Inner.Pulls.{IsPull}
use Rattle.refutation.specs.FactSets.{held_by}
use Rattle.refutation.specs.Facts.{known_good}

pub returns : goal.returns
returns c e =
    let goods : List (Option Bool) = map (known_good (held_by c.args.facts.now)) (drivers_of (net_of c.args.question.now.graph.now) c.args.node.0) in
    let f = goods_counted (held_by c.args.facts.now) c.requires.free c.args.question.now.fault.position (drivers_of (net_of c.args.question.now.graph.now) c.args.node.0) c.args.tally.now c.requires.tally in
    good_done (net_of c.args.question.now.graph.now) c.args.question.now.fault c.args.facts.now c.requires.ready.formed c.requires.free c.args.node c.args.c c.requires.kind
    (subst (λ k. IsPull c.args.c goods k None) c.known_of.ensures (c.pulls_nothing.ensures e goods (c.count_for-count.ensures.count goods f.0 f.1.0 f.1.1)))
