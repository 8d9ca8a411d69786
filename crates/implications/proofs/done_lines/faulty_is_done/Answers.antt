use Rattle.std.proofs.Common.{List, None, Option, Bool, subst}
use Rattle.gate_graph.specs.Circuit.{net_of}
use Rattle.gate_net.specs.Net.{drivers_of}
use Rattle.implications.proofs.GateLines.{faulty_done}
use Rattle.implications.proofs.done_lines.faulty_is_done.Goals as goal
use Rattle.implications.specs.Inner.Pulls.{IsPull}
use Rattle.refutation.specs.FactSets.{held_by}
use Rattle.refutation.specs.Pins.{pins_of, stuck_of}
use Rattle.refutation.specs.declared.pins.Aspect.TheVariants.{OfFaulty}

pub returns : goal.returns
returns c e =
    let faulties : List (Option Bool) = pins_of (stuck_of c.args.question.now.fault c.args.node.0) OfFaulty (held_by c.args.facts.now) (drivers_of (net_of c.args.question.now.graph.now) c.args.node.0) in
    faulty_done (net_of c.args.question.now.graph.now) c.args.question.now.fault c.args.facts.now c.requires.ready.formed c.requires.free c.args.node c.args.c c.requires.kind
    (subst (λ k. IsPull c.args.c faulties k None) c.known_of.ensures (c.pulls_nothing.ensures e faulties c.faulty_count-count.ensures))
