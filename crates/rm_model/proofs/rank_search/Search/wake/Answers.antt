use Rattle.std.proofs.Common.{◌≡◌, ℕ, Some, map, List, arith, get_or, subst, sym, ◌∙◌, refl}
use Rattle.std.specs.Prelude.{slice_get}
use Rattle.std.proofs.lemmas.List.{length-map}
use Rattle.std.proofs.lemmas.Option.{slice_get-get_or, slice_get_read}
use Rattle.std.proofs.lemmas.Result.{on_ok_weaker}
use Rattle.rm_model.specs.Inner.Search.{State, IsSound, LeadsTo, list_at}
use Rattle.rm_model.specs.Inner.SearchView.{items_of, state_of}
use Rattle.rm_model.proofs.SearchLemmas.{order-known, woken-sound}
use Rattle.rm_model.proofs.LookLemmas.{settled-woken, on_ok_both}
use Rattle.rm_model.proofs.rank_search.Search.wake.Goals as goal

pub take_waiting-waiting-requires : goal.take_waiting-waiting-requires
take_waiting-waiting-requires c =
    let at = slice_get_read c.args.self.now.order.items _ c.args.place c.index.result.now refl c.requires.place c.index.ensures in
    let known = order-known (map items_of c.args.drivers.now) (state_of c.args.self.now) c.requires.sound c.args.place c.index.result.now at in
    omega (arith, known, c.requires.sound.waiting_length, length-map c.args.self.now.waiting.items items_of)

pub look_at_all-requires-clause-sound : goal.look_at_all-requires-clause-sound
look_at_all-requires-clause-sound c =
    let drivers : List (List ℕ) = map items_of c.args.drivers.now in
    let s : State = state_of c.args.self.now in
    let at = slice_get_read c.args.self.now.order.items _ c.args.place c.index.result.now refl c.requires.place c.index.ensures in
    let known = order-known drivers s c.requires.sound c.args.place c.index.result.now at in
    subst (λ (w : List (List ℕ)). IsSound drivers (record s { waiting = w })) (sym c.take_waiting-waiting.ensures.left) (woken-sound drivers s c.requires.sound c.args.place c.index.result.now at known)

pub look_at_all-requires-clause-covers : goal.look_at_all-requires-clause-covers
look_at_all-requires-clause-covers c = λ k e lt.
    let list : List ℕ = list_at (map items_of c.args.self.now.waiting.items) c.index.result.now in
    let is : c.as_slice.result.now ≡ list = c.as_slice.ensures.value ∙ c.take_waiting-waiting.ensures.taken in
    let there : slice_get list k ≡ Some (get_or c.as_slice.result.now k e) = subst (λ (l : List ℕ). slice_get l k ≡ Some (get_or c.as_slice.result.now k e)) is (slice_get-get_or c.as_slice.result.now k e lt) in
    let within = c.requires.sound.waiting c.index.result.now (get_or c.as_slice.result.now k e) (k, there) in
    omega (arith, within, length-map c.args.drivers.now items_of)

pub returns-clause-settled : goal.returns-clause-settled
returns-clause-settled c =
    let drivers : List (List ℕ) = map items_of c.args.drivers.now in
    let s : State = state_of c.args.self.now in
    let at = slice_get_read c.args.self.now.order.items _ c.args.place c.index.result.now refl c.requires.place c.index.ensures in
    let known = order-known drivers s c.requires.sound c.args.place c.index.result.now at in
    let list : List ℕ = list_at (map items_of c.args.self.now.waiting.items) c.index.result.now in
    let is : list ≡ c.as_slice.result.now = sym (c.as_slice.ensures.value ∙ c.take_waiting-waiting.ensures.taken) in
    on_ok_weaker c.look_at_all.result
    (λ h. settled-woken drivers s (state_of c.look_at_all.new.self) c.args.place c.index.result.now c.requires.sound at known
    (subst (λ (w : List (List ℕ)). LeadsTo drivers (record s { waiting = w }) (state_of c.look_at_all.new.self)) c.take_waiting-waiting.ensures.left h.0)
    (λ place p k le there. h.1 place p k le (subst (λ (l : List ℕ). slice_get l p ≡ Some k) is there)))
    (on_ok_both _ _ c.look_at_all.result c.look_at_all.ensures.leads c.look_at_all.ensures.settled)
