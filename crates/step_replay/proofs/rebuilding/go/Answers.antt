use Rattle.std.proofs.Common.{◌∙◌, subst, sym}
use Rattle.gate_net.specs.Net.{Net}
use Rattle.step_replay.specs.Inner.Making.{AreMakeable, IsSmall}
use Rattle.step_replay.proofs.Makeable.{accepted_makeable, decomposed_small}
use Rattle.step_replay.proofs.rebuilding.go.Goals as goal

pub begin-requires-clause-small : goal.begin-requires-clause-small
begin-requires-clause-small c =
    subst IsSmall (sym c.in_ok-graph.ensures.net)
    (decomposed_small c.args.model.now (c.decompositions_stand.ensures.wires c.args.model.now c.requires.formed c.requires.ranked) c.requires.few c.in_ok-graph.ensures.nodes c.requires.observed)

pub make_all-requires-clause-makeable : goal.make_all-requires-clause-makeable
make_all-requires-clause-makeable c =
    subst (λ (n : Net). AreMakeable n c.args.steps.now) (sym (c.in_ok-trial.ensures.net ∙ c.in_ok-graph.ensures.net))
    (accepted_makeable c.args.model.now (c.decompositions_stand.ensures.wires c.args.model.now c.requires.formed c.requires.ranked) c.requires.few c.in_ok-graph.ensures.nodes c.requires.observed c.accepted_steps_keep.ensures
    (c.decompositions_are_formed.ensures.formed c.args.model.now) c.args.steps.now c.requires.run)
