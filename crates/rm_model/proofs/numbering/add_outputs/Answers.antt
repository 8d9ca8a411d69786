use Rattle.std.proofs.Common.{List, ap, refl, ◌∙◌}
use Rattle.std.proofs.lemmas.Option.{slice_get_read}
use Rattle.rm_model.specs.Value.{is_among}
use Rattle.rm_model.proofs.NumberingLemmas.{next-output-is-new}
use Rattle.rm_model.proofs.numbering.add_outputs.Goals as goal
use Rattle.rm_base.specs.Words.{Word}

pub add-requires : goal.add-requires
add-requires c =
    ap (λ (x : Word). is_among c.loop-cover.table x) c.items.ensures
    ∙ (ap (λ (t : List Word). is_among t c.cover-item.result.output) c.loop-cover.invariant
    ∙ next-output-is-new c.args.table.now c.args.covers.now c.loop-cover.cover-index c.cover-item.result c.requires (slice_get_read c.args.covers.now _ c.loop-cover.cover-index c.cover-item.result refl c.loop-cover-test.true c.cover-item.is))
