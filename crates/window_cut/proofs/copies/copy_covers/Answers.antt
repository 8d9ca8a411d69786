use Rattle.std.proofs.Common.{List, ap, sym, ◌∙◌, ◌++◌, option_to_list}
use Rattle.std.specs.Prelude.{slice_get, slice_index}
use Rattle.rm_model.specs.declared.parts.Cover.{Cover}
use Rattle.window_cut.proofs.Lists.{covers_at-next}
use Rattle.window_cut.proofs.copies.copy_covers.Goals as goal

pub loop-place-preserved : goal.loop-place-preserved
loop-place-preserved c =
    c.in_ok-push_copy.ensures
    ∙ (ap (λ (l : List Cover). l ++ option_to_list (slice_get c.args.covers.now (slice_index c.args.places.now c.loop-place.place-index))) c.loop-place.invariant
    ∙ sym (covers_at-next c.args.covers.now c.args.places.now c.loop-place.place-index c.loop-place-test.true))
