use Rattle.std.proofs.Common.{◌≡◌, ◌∙◌, ap, subst, sym}
use Rattle.rm_model.specs.Value.{IsRanked}
use Rattle.rm_model.specs.declared.parts.Model.{Model}
use Rattle.cover_decompose.specs.Count.{decomposed}
use Rattle.sewing.specs.Laws.{IsReplacement}
use Rattle.sewing.specs.Sewn.{sewn}
use Rattle.window_fit.specs.Shared.{sewn_again}
use Rattle.rambo_cli.proofs.stitching.sew_parts.Goals as goal

pub count_model-requires-clause-ranked : goal.count_model-requires-clause-ranked
count_model-requires-clause-ranked c =
    let own : Model = c.args.own.now.ranked in
    let same : c.in_ok-sewn.sewn ≡ sewn_again own c.args.parts.now = c.in_ok-sewn.ensures.made ∙ ap (λ (m : Model). sewn m c.args.parts.now) c.requires.whole in
    subst IsRanked (sym same) (c.requires.fit c.in_ok-sewn.ensures.few).equivalent.other_ranked

pub chosen_text-requires-clause-made : goal.chosen_text-requires-clause-made
chosen_text-requires-clause-made c =
    let own : Model = c.args.own.now.ranked in
    let same : c.in_ok-made.made.ranked ≡ sewn_again own c.args.parts.now = c.in_ok-made.ensures.same ∙ (c.in_ok-sewn.ensures.made ∙ ap (λ (m : Model). sewn m c.args.parts.now) c.requires.whole) in
    subst (λ (m : Model). IsReplacement own m) (sym same) (c.requires.fit c.in_ok-sewn.ensures.few)

pub chosen_text-requires-clause-wires : goal.chosen_text-requires-clause-wires
chosen_text-requires-clause-wires c = c.in_ok-made.ensures.wires ∙ ap decomposed (sym c.in_ok-made.ensures.same)

pub returns : goal.returns
returns c =
    let own : Model = c.args.own.now.ranked in
    c.chosen_text.ensures c.args.parts.now (c.in_ok-made.ensures.same ∙ (c.in_ok-sewn.ensures.made ∙ ap (λ (m : Model). sewn m c.args.parts.now) c.requires.whole))
