use Rattle.std.proofs.Common.{List, ap, refl, ◌∙◌}
use Rattle.std.proofs.lemmas.Option.{slice_get_read}
use Rattle.rm_model.specs.Value.{is_among}
use Rattle.rm_model.proofs.NumberingLemmas.{next-is-new}
use Rattle.rm_model.proofs.numbering.add_sources.Goals as goal
use Rattle.rm_base.specs.Words.{Word}

pub add-requires : goal.add-requires
add-requires c =
    ap (λ (x : Word). is_among c.loop-name.table x) c.items.ensures
    ∙ (ap (λ (t : List Word). is_among t c.name-item.result) c.loop-name.invariant
    ∙ next-is-new c.args.table.now c.args.sources.now c.loop-name.name-index c.name-item.result c.requires (slice_get_read c.args.sources.now _ c.loop-name.name-index c.name-item.result refl c.loop-name-test.true c.name-item.is))
