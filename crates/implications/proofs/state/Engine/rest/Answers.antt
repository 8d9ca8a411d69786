use Rattle.std.proofs.Common.{ap, false, length, replicate, subst, sym, ◌∙◌, ◌≡◌}
use Rattle.std.proofs.lemmas.List.{length-replicate}
use Rattle.implications.proofs.state.Engine.rest.Goals as goal
use Rattle.implications.specs.Bases.{ComesToRest}
use Rattle.implications.specs.State.{EngineState}

pub returns-clause-fitted : goal.returns-clause-fitted
returns-clause-fitted c = λ net f.
    let long : length c.come_to_rest.new.taken ≡ length c.args.basis.now.taken = ap (λ bs. length bs) c.come_to_rest.ensures.taken ∙ length-replicate (length c.args.basis.now.taken) false in (
      record {
        rest = c.come_to_rest.ensures.rest net (subst (λ (s : EngineState). ComesToRest net s.trail c.args.basis.now.taken c.args.basis.now.facts) (sym c.self.view_is) f.rest);
        none = c.come_to_rest.ensures.taken ∙ ap (λ n. replicate n false) (sym long);
        pinless = f.pinless;
      },
      record {
        nodes = f.room.nodes;
        facts = c.come_to_rest.ensures.size ∙ f.room.facts;
        taken = long ∙ f.room.taken;
      },
    )
