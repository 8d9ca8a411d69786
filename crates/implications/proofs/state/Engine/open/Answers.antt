use Rattle.std.proofs.Common.{subst, sym}
use Rattle.gate_graph.specs.Circuit.{net_of}
use Rattle.implications.proofs.state.Engine.open.Goals as goal
use Rattle.implications.specs.Bases.{ComesToRest}
use Rattle.implications.specs.State.{EngineState}

pub take_reached-requires-clause-rest : goal.take_reached-requires-clause-rest
take_reached-requires-clause-rest c =
    c.come_to_rest.ensures.rest (net_of c.args.question.now.graph.now)
    (subst (λ trail. ComesToRest (net_of c.args.question.now.graph.now) trail c.args.basis.now.taken c.args.basis.now.facts) (sym c.start-mark.ensures.trail)
    (subst (λ (s : EngineState). ComesToRest (net_of c.args.question.now.graph.now) s.trail c.args.basis.now.taken c.args.basis.now.facts) (sym c.self.view_is) c.requires.serves.rest))
