use Rattle.std.proofs.Common.{ap, ◌∙◌, List, refl}
use Rattle.std.proofs.lemmas.Option.{slice_get_read}
use Rattle.rm_base.specs.Words.{Word}
use Rattle.rm_model.specs.Value.{is_among}
use Rattle.cover_sharing.proofs.Turns.{new_output}
use Rattle.cover_sharing.proofs.sharing.output_table.Goals as goal

pub add-requires : goal.add-requires
add-requires c =
    ap (λ (x : Word). is_among c.loop-cover.table x) c.items.ensures
    ∙ (ap (λ (t : List Word). is_among t c.cover-item.result.output) c.loop-cover.invariant
    ∙ new_output c.args.covers.now c.loop-cover.cover-index c.cover-item.result c.requires (slice_get_read c.args.covers.now _ c.loop-cover.cover-index c.cover-item.result refl c.loop-cover-test.true c.cover-item.is))
