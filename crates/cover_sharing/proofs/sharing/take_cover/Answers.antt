use Rattle.std.proofs.Common.{refl, sym, ◌∙◌, slice_set, Some}
use Rattle.cover_sharing.proofs.Turns.{shown_kept, shown_merged}
use Rattle.cover_sharing.proofs.sharing.take_cover.Goals as goal

pub returns-in_ok-push-in-None-clause-shown : goal.returns-in_ok-push-in-None-clause-shown
returns-in_ok-push-in-None-clause-shown c = λ s shown.
    shown_kept c.args.outputs.now c.args.observed.now s c.args.kept.now c.args.stands.now c.args.cover.now c.in_ok-standing.standing shown c.in_ok-standing.ensures
    c.push.new.self (sym c.in-None.is ∙ c.in_ok-origin.ensures) c.in_ok-push-in-None.ensures

pub returns-in_ok-keep_observed-in-Some-clause-shown : goal.returns-in_ok-keep_observed-in-Some-clause-shown
returns-in_ok-keep_observed-in-Some-clause-shown c = λ s shown.
    shown_merged c.args.outputs.now c.args.observed.now s c.args.kept.now c.args.stands.now c.args.cover.now c.in_ok-standing.standing shown c.in_ok-standing.ensures
    c.keep_observed.new.kept (slice_set c.args.stands.now c.args.place (Some c.in-Some.name)) c.in-Some.name c.args.place
    (sym c.in-Some.is ∙ c.in_ok-origin.ensures) c.in_ok-keep_observed-in-Some.ensures refl c.requires.place c.requires.only c.requires.room
