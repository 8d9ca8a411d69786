use Rattle.std.proofs.Common.{ap, sym, subst, ◌∙◌, arith, List, ℕ, fold, take}
use Rattle.rm_base.proofs.Public.{take_zero}
use Rattle.window_cut.specs.Order.{covers_at}
use Rattle.cover_sharing.specs.Inner.Standing.{IsShown}
use Rattle.cover_sharing.specs.Shared.{Sharing, with_cover}
use Rattle.cover_sharing.proofs.Turns.{fold-next, take_all}
use Rattle.cover_sharing.proofs.sharing.take_places.Goals as goal

pub loop-place-init : goal.loop-place-init
loop-place-init c = (c.requires.room, λ s shown. subst (λ (l : List ℕ). IsShown c.args.outputs.now (fold (with_cover c.args.observed.now) s (covers_at c.args.covers.now l)) c.args.kept.now c.args.stands.now) (sym (take_zero c.args.places.now)) shown)

pub loop-place-preserved : goal.loop-place-preserved
loop-place-preserved c = (
  c.in_ok-take_place.ensures.room,
  λ s shown.
      subst (λ (t : Sharing). IsShown c.args.outputs.now t c.take_place.new.kept c.take_place.new.stands) (sym (fold-next c.args.observed.now s c.args.covers.now c.args.places.now c.loop-place.place-index c.loop-place-test.true))
      (c.in_ok-take_place.ensures.shown (fold (with_cover c.args.observed.now) s (covers_at c.args.covers.now (take c.loop-place.place-index c.args.places.now))) (c.loop-place.invariant.1 s shown)),
)

pub returns : goal.returns
returns c = λ s shown. subst (λ (l : List ℕ). IsShown c.args.outputs.now (fold (with_cover c.args.observed.now) s (covers_at c.args.covers.now l)) c.loop-place.kept c.loop-place.stands) (take_all c.args.places.now c.loop-place.place-index c.loop-place-test.false) (c.loop-place.invariant.1 s shown)
