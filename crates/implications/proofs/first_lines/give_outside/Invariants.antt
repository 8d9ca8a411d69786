use Rattle.gate_graph.specs.Circuit.{net_of}
use Rattle.implications.proofs.first_lines.give_outside.Given as goal
use Rattle.implications.specs.Inner.Beginning.{GivingOut, IsGoing}

abbrev pub invariant-loop-number : goal.invariant-loop-number
invariant-loop-number l =
    GivingOut (net_of l.question.graph.now) l.question.fault l.number l.initial.facts l.initial.log.lines.items l.initial.log.trail.items l.facts l.log.lines.items l.log.trail.items
    × IsGoing (net_of l.question.graph.now) l.question.fault l.facts l.initial.worklist l.initial.tallies l.worklist l.tallies
