use Rattle.gate_graph.specs.Circuit.{net_of}
use Rattle.implications.proofs.first_lines.give_on_chain.Given as goal
use Rattle.implications.specs.Inner.Beginning.{Chaining, IsGoing, StaysPending}

abbrev pub invariant-loop-step : goal.invariant-loop-step
invariant-loop-step l =
    Chaining (net_of l.question.graph.now) l.question.fault l.initial.facts l.initial.log.lines.items l.initial.log.trail.items l.facts l.log.lines.items l.log.trail.items l.at.0 l._step
    × (IsGoing (net_of l.question.graph.now) l.question.fault l.facts l.initial.worklist l.initial.tallies l.worklist l.tallies × StaysPending (net_of l.question.graph.now) l.question.fault l.initial.facts l.initial.worklist l.facts l.worklist)
