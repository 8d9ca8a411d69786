use Rattle.std.proofs.Common.{List, drop, length, subst, ℕ}
use Rattle.implications.proofs.Steps.{added_of}
use Rattle.implications.proofs.state.Engine.extend.Goals as goal
use Rattle.implications.specs.State.{EngineState}
use Rattle.implications.specs.Trail.{AreAdded, LeadsBack}
use Rattle.implications.specs.Inner.Working.{Keeps}
use Rattle.refutation.specs.declared.held.NodeFacts.{NodeFacts}

pub returns-in-Ok-clause-added : goal.returns-in-Ok-clause-added
returns-in-Ok-clause-added c =
    subst (λ (s : EngineState). AreAdded (drop (length s.trail) c.add_good-answer.new.log.trail.items) c.args.facts.now c.add_good-answer.new.facts) c.self.view_is
    (added_of c.args.facts.now c.self.inside.log.trail.items c.add_good-answer.new.facts c.add_good-answer.new.log.trail.items (subst (λ trail. Keeps c.args.facts.now trail c.add_good-answer.new.facts c.add_good-answer.new.log.trail.items) c.start-mark.ensures.trail c.add_good-answer.ensures.keeps))

pub returns-in-Ok-clause-back : goal.returns-in-Ok-clause-back
returns-in-Ok-clause-back c =
    let keeps : Keeps c.args.facts.now c.self.inside.log.trail.items c.add_good-answer.new.facts c.add_good-answer.new.log.trail.items = subst (λ trail. Keeps c.args.facts.now trail c.add_good-answer.new.facts c.add_good-answer.new.log.trail.items) c.start-mark.ensures.trail c.add_good-answer.ensures.keeps in
    subst (λ (s : EngineState). (mark : ℕ) (start : List NodeFacts) → LeadsBack s.trail mark c.args.facts.now start → LeadsBack c.add_good-answer.new.log.trail.items mark c.add_good-answer.new.facts start) c.self.view_is keeps.back

pub returns-in-Err-clause-added : goal.returns-in-Err-clause-added
returns-in-Err-clause-added c =
    subst (λ (s : EngineState). AreAdded (drop (length s.trail) c.add_good-answer.new.log.trail.items) c.args.facts.now c.add_good-answer.new.facts) c.self.view_is
    (added_of c.args.facts.now c.self.inside.log.trail.items c.add_good-answer.new.facts c.add_good-answer.new.log.trail.items (subst (λ trail. Keeps c.args.facts.now trail c.add_good-answer.new.facts c.add_good-answer.new.log.trail.items) c.start-mark.ensures.trail c.add_good-answer.ensures.keeps))

pub returns-in-Err-clause-back : goal.returns-in-Err-clause-back
returns-in-Err-clause-back c =
    let keeps : Keeps c.args.facts.now c.self.inside.log.trail.items c.add_good-answer.new.facts c.add_good-answer.new.log.trail.items = subst (λ trail. Keeps c.args.facts.now trail c.add_good-answer.new.facts c.add_good-answer.new.log.trail.items) c.start-mark.ensures.trail c.add_good-answer.ensures.keeps in
    subst (λ (s : EngineState). (mark : ℕ) (start : List NodeFacts) → LeadsBack s.trail mark c.args.facts.now start → LeadsBack c.add_good-answer.new.log.trail.items mark c.add_good-answer.new.facts start) c.self.view_is keeps.back
