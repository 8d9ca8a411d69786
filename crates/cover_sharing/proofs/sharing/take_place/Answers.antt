use Rattle.std.proofs.Common.{ap, sym, subst, ◌∙◌, arith, List}
use Rattle.std.specs.Prelude.{slice_get}
use Rattle.std.proofs.lemmas.Option.{slice_get_within}
use Rattle.rm_base.specs.Words.{Word}
use Rattle.rm_model.specs.Numbers.{place_of}
use Rattle.cover_sharing.specs.Inner.Standing.{IsShown}
use Rattle.cover_sharing.specs.Shared.{Sharing}
use Rattle.cover_sharing.proofs.Turns.{none_taken, place_only, place_own, some_taken}
use Rattle.cover_sharing.proofs.sharing.take_place.Goals as goal

pub take_cover-requires-clause-place : goal.take_cover-requires-clause-place
take_cover-requires-clause-place c =
    ap (λ (o : List Word). place_of o c.in-Some.cover.now.output) c.requires.outputs
    ∙ place_own c.args.covers.now c.args.place c.in-Some.cover.now c.requires.once (sym c.in-Some.ensures)

pub take_cover-requires-clause-only : goal.take_cover-requires-clause-only
take_cover-requires-clause-only c = λ x e.
    place_only c.args.covers.now c.args.place c.in-Some.cover.now x (sym c.in-Some.ensures) (ap (λ (o : List Word). place_of o x) (sym c.requires.outputs) ∙ e)

pub take_cover-requires-clause-room : goal.take_cover-requires-clause-room
take_cover-requires-clause-room c = omega (arith, slice_get_within c.args.covers.now c.args.place c.in-Some.cover.now (sym c.in-Some.ensures), c.requires.room)

pub returns-in-None-clause-shown : goal.returns-in-None-clause-shown
returns-in-None-clause-shown c = λ s shown. subst (λ (t : Sharing). IsShown c.args.outputs.now t c.args.kept.now c.args.stands.now) (sym (none_taken c.args.observed.now s (slice_get c.args.covers.now c.args.place) c.in-None.ensures)) shown

pub returns-clause-shown : goal.returns-clause-shown
returns-clause-shown c = λ s shown.
    subst (λ (t : Sharing). IsShown c.args.outputs.now t c.take_cover.new.kept c.take_cover.new.stands) (sym (some_taken c.args.observed.now s c.in-Some.cover.now (slice_get c.args.covers.now c.args.place) c.in-Some.ensures))
    (c.in_ok-take_cover.ensures.shown s shown)
