use Rattle.std.proofs.Common.{◌≡◌, ◌++◌, ◌∷◌, [], ◌∙◌, ap, sym, subst, List, true, false, take}
use Rattle.std.specs.Prelude.{All}
use Rattle.rm_model.specs.Value.{is_among}
use Rattle.rm_model.proofs.EvaluationLemmas.{step-new, step-inputs, step-rows, step-names, step-value, outputs_at}
use Rattle.rm_model.proofs.evaluation.add_covers.Goals as goal
use Rattle.rm_base.specs.Words.{Word}

pub add_cover-requires : goal.add_cover-requires
add_cover-requires c =
    let now : c.loop-place.known.names ≡ c.args.known.now.names ++ outputs_at c.args.covers.now (take c.loop-place.place-index c.args.order.now) = c.loop-place.invariant.names in
    record {
      new = subst (λ (l : List Word). is_among l c.index-covers-place.result.output ≡ false) (sym now) (step-new c.args.covers.now c.args.known.now.names c.requires.once c.args.order.now c.requires.order c.loop-place.place-index c.loop-place-test.true c.index-covers-place.result c.index-covers-place.is);
      inputs = subst (λ (l : List Word). All (λ x. is_among l x ≡ true) c.index-covers-place.result.inputs) (sym now) (step-inputs c.args.covers.now c.args.known.now.names c.requires.once c.args.order.now c.requires.order c.loop-place.place-index c.loop-place-test.true c.index-covers-place.result c.index-covers-place.is c.requires.driven);
      rows = step-rows c.args.covers.now c.args.known.now.names c.requires.once c.args.order.now c.requires.order c.loop-place.place-index c.loop-place-test.true c.index-covers-place.result c.index-covers-place.is c.requires.rows;
      paired = c.loop-place.invariant.paired;
    }

pub loop-place-preserved : goal.loop-place-preserved
loop-place-preserved c = record {
  names = c.in_ok-add_cover.ensures.names ∙ (ap (λ (l : List Word). l ++ c.index-covers-place.result.output ∷ []) c.loop-place.invariant.names ∙ step-names c.args.covers.now c.args.known.now.names c.requires.once c.args.order.now c.requires.order c.loop-place.place-index c.loop-place-test.true c.index-covers-place.result c.index-covers-place.is);
  values = λ v consistent start. c.in_ok-add_cover.ensures.values v (step-value c.args.covers.now c.args.known.now.names c.requires.once c.args.order.now c.requires.order c.loop-place.place-index c.loop-place-test.true c.index-covers-place.result c.index-covers-place.is v consistent) (c.loop-place.invariant.values v consistent start);
  paired = c.in_ok-add_cover.ensures.paired;
}
