use Rattle.std.proofs.Common.{subst, sym}
use Rattle.implications.proofs.Trails.{back_all, back_earlier}
use Rattle.implications.proofs.state.Engine.take_back.Goals as goal
use Rattle.implications.specs.State.{EngineState}
use Rattle.implications.specs.Trail.{LeadsBack}

pub returns-clause-back : goal.returns-clause-back
returns-clause-back c start b =
    back_all c.self.inside.log.trail.items c.args.facts.now c.take_off.new.trail.items c.take_off.new.facts c.args.mark c.take_off.ensures.back c.take_off.ensures.long start
    (subst (λ (s : EngineState). LeadsBack s.trail c.args.mark c.args.facts.now start) (sym c.self.view_is) b)

pub returns-clause-earlier : goal.returns-clause-earlier
returns-clause-earlier c earlier start le b =
    back_earlier c.self.inside.log.trail.items c.args.facts.now c.take_off.new.trail.items c.take_off.new.facts c.args.mark c.take_off.ensures.back c.take_off.ensures.long earlier start le
    (subst (λ (s : EngineState). LeadsBack s.trail earlier c.args.facts.now start) (sym c.self.view_is) b)
