use Rattle.std.proofs.Common.{ap, ◌∙◌, List, refl}
use Rattle.std.proofs.lemmas.Option.{slice_get_read}
use Rattle.rm_model.specs.Value.{is_among}
use Rattle.rm_model.proofs.NameLemmas.{new-word}
use Rattle.rm_model.proofs.evaluation.known_sources.Goals as goal
use Rattle.rm_base.specs.Words.{Word}

pub add-requires : goal.add-requires
add-requires c =
    ap (λ (x : Word). is_among c.loop-place.known.names x) c.items.ensures
    ∙ (ap (λ (t : List Word). is_among t c.index-names-place.result) c.loop-place.invariant.names
    ∙ new-word c.args.names.now c.loop-place.place c.index-names-place.result c.requires.once (slice_get_read c.args.names.now _ c.loop-place.place c.index-names-place.result refl c.loop-place-test.true c.index-names-place.is))
