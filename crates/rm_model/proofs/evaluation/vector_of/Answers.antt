use Rattle.std.proofs.Common.{◌∙◌, ap, List, Bool, false, get_or, slice_set}
use Rattle.std.proofs.lemmas.Option.{slice_get-get_or}
use Rattle.rm_model.proofs.EvaluationLemmas.{put-more}
use Rattle.rm_model.proofs.evaluation.vector_of.Goals as goal

pub loop-place-preserved : goal.loop-place-preserved
loop-place-preserved c =
    let value : Bool = get_or c.args.values.now c.loop-place.place false in
    c.set.ensures ∙ (ap (λ (l : List Bool). slice_set l c.loop-place.place value) c.loop-place.invariant ∙ put-more c.args.values.now c.loop-place.place value c.loop-place-test.true (slice_get-get_or c.args.values.now c.loop-place.place false c.loop-place-test.true))
