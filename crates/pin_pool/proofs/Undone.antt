-- What a call did is undone.
use Rattle.std.proofs.Common.{◌≡◌, ◌≢◌, ℕ, ◌-◌, Bool, true, false, List, [], ◌∷◌, ◌++◌, length, take, drop, Option, refl, sym, ap, ◌∙◌, arith, inl, inr, length-append}
use mathlib.Core.Path.{fun_ext}
use Rattle.std.proofs.lemmas.Bool.{cases_eq, false_from_ne_true, false≢true}
use Rattle.std.proofs.lemmas.Bool.Decides.{nat_tests}
use Rattle.pin_pool.specs.Ring.{has}
use Rattle.pin_pool.specs.Pins.{put_after, before_in, StandsIn}
use Rattle.pin_pool.specs.Rings.{Rings, changed, all_without, claimed, joined, dropped, linked, unlinked, returned, relinked, redriven, restored, moved, moved_back, IsOut, AreOnce, AreRings, Stood}
use Rattle.pin_pool.specs.declared.names.PinNo.{PinNo}
use Rattle.pin_pool.specs.declared.names.Slot.{Slot}
use Rattle.pin_pool.specs.declared.names.Splice.{Splice}
use Rattle.pin_pool.proofs.RingLemmas.{has-without, without-absent, without-push}
use Rattle.pin_pool.proofs.ListLaws.{put-back, stands-before}
use Rattle.pin_pool.proofs.RingsOf.{changed-same, changed-other, same-rings}

module _ (f : ℕ → List ℕ) (taken : ℕ → Bool) (once : AreOnce f taken) (p : ℕ) where
  pub out-without : IsOut (all_without p f) p
  out-without n = has-without p (f n) p (once.apart n) ∙ grind (arith, nat_tests)

  pub elsewhere : (g n : ℕ) → has p (f g) ≡ true → n ≢ g → all_without p f n ≡ f n
  elsewhere g n h ne = without-absent p (f n) (false_from_ne_true _ (λ k. ne (once.one n g p k h)))

  pub stands : (g : ℕ) (b : Option PinNo) → has p (f g) ≡ true → b ≡ before_in (f g) p → StandsIn (all_without p f g) b
  stands g b h e = rw e (stands-before p (f g) (once.apart g) h)

  pub back : (g : ℕ) (b : Option PinNo) → has p (f g) ≡ true → b ≡ before_in (f g) p → changed (all_without p f) g (put_after (all_without p f g) b p) ≡ f
  back g b h e =
      let here : put_after (all_without p f g) b p ≡ f g = rw e (put-back p (f g) (once.apart g) h) in
      fun_ext (λ n. elim (cases_eq n g) [
        | inl s ↦ rw s (changed-same (all_without p f) g (put_after (all_without p f g) b p) ∙ here)
        | inr s ↦ changed-other (all_without p f) g (put_after (all_without p f g) b p) n s ∙ elsewhere g n h s
      ])

pub without-pushed : (f : ℕ → List ℕ) (g p : ℕ) → IsOut f p → all_without p (changed f g (f g ++ p ∷ [])) ≡ f
without-pushed f g p out = fun_ext (λ n. elim (cases_eq n g) [
  | inl e ↦ rw (e, changed-same f g (f g ++ p ∷ [])) (without-push p (f g) (out g))
  | inr ne ↦ rw (changed-other f g (f g ++ p ∷ []) n ne) (without-absent p (f n) (out n))
])

pub changed-back : {A : Type 0} (f : ℕ → A) (n : ℕ) (x : A) → changed (changed f n x) n (f n) ≡ f
changed-back f n x = fun_ext (λ m. elim (cases_eq m n) [
  | inl e ↦ rw (e, changed-same (changed f n x) n (f n)) refl
  | inr ne ↦ rw (changed-other (changed f n x) n (f n) m ne, changed-other f n x m ne) refl
])

pub relink-undoes : (r : Rings) (p : ℕ) (slot : Slot) → AreRings r → Stood r p slot → relinked p slot (unlinked p r) ≡ r
relink-undoes r p slot i s =
    same-rings _ _ (back r.inputs r.taken i.inputs p slot.gate slot.in_gate s.in_gate s.after_gate) (back r.fanouts r.taken i.fanouts p slot.driver slot.in_driver s.in_driver s.after_driver) refl

pub restore-undoes : (r : Rings) (p driver : ℕ) (slot : Slot) → AreRings r → Stood r p slot → restored p slot (redriven p driver r) ≡ r
restore-undoes r p driver slot i s =
    same-rings _ _ refl
    (ap (λ (f : ℕ → List ℕ). changed f slot.driver (put_after (f slot.driver) slot.in_driver p)) (without-pushed (all_without p r.fanouts) driver p (out-without r.fanouts r.taken i.fanouts p))
    ∙ back r.fanouts r.taken i.fanouts p slot.driver slot.in_driver s.in_driver s.after_driver)
    refl

take-front : {A : Type 0} (xs ys : List A) → take (length (xs ++ ys) - length ys) (xs ++ ys) ≡ xs
take-front xs ys = let n : length (xs ++ ys) - length ys ≡ length xs = omega (arith, length-append xs ys) in rw n (front xs ys)
  where
    front : {A : Type 0} (xs ys : List A) → take (length xs) (xs ++ ys) ≡ xs
    front [] ys = refl
    front (x ∷ xs) ys = ap (λ l. x ∷ l) (front xs ys)

drop-front : {A : Type 0} (xs ys : List A) → drop (length (xs ++ ys) - length ys) (xs ++ ys) ≡ ys
drop-front xs ys = let n : length (xs ++ ys) - length ys ≡ length xs = omega (arith, length-append xs ys) in rw n (front xs ys)
  where
    front : {A : Type 0} (xs ys : List A) → drop (length xs) (xs ++ ys) ≡ ys
    front [] ys = refl
    front (x ∷ xs) ys = front xs ys

pub move_back-undoes : (r : Rings) (s : Splice) → s.from ≢ s.to → s.count ≡ length (r.fanouts s.from) → moved_back s (moved s.from s.to r) ≡ r
move_back-undoes r s apart count =
    let f = r.fanouts in
    let g = changed (changed f s.from []) s.to (f s.to ++ f s.from) in
    let there : g s.to ≡ f s.to ++ f s.from = changed-same (changed f s.from []) s.to (f s.to ++ f s.from) in
    let left : take (length (g s.to) - s.count) (g s.to) ≡ f s.to = rw (there, count) (take-front (f s.to) (f s.from)) in
    let right : drop (length (g s.to) - s.count) (g s.to) ≡ f s.from = rw (there, count) (drop-front (f s.to) (f s.from)) in
    same-rings _ _ refl
    (ap (λ (xs : List ℕ). changed (changed g s.to xs) s.from (drop (length (g s.to) - s.count) (g s.to))) left
    ∙ ap (λ (ys : List ℕ). changed (changed g s.to (f s.to)) s.from ys) right
    ∙ fun_ext (λ n. elim (cases_eq n s.from) [
      | inl e ↦ rw e (changed-same (changed g s.to (f s.to)) s.from (f s.from))
      | inr ne ↦ changed-other (changed g s.to (f s.to)) s.from (f s.from) n ne ∙ elim (cases_eq n s.to) [
        | inl e ↦ rw e (changed-same g s.to (f s.to))
        | inr ne' ↦ changed-other g s.to (f s.to) n ne' ∙ changed-other (changed f s.from []) s.to (f s.to ++ f s.from) n ne' ∙ changed-other f s.from [] n ne
      ]
    ]))
    refl

pub unlink-undoes : (r : Rings) (p gate driver : ℕ) → IsOut r.inputs p → IsOut r.fanouts p → unlinked p (joined p gate driver r) ≡ r
unlink-undoes r p gate driver a b = same-rings _ _ (without-pushed r.inputs gate p a) (without-pushed r.fanouts driver p b) refl

pub give_back-undoes : (r : Rings) (p : ℕ) → r.taken p ≡ false → returned p (claimed p r) ≡ r
give_back-undoes r p free =
    same-rings _ _ refl refl (ap (λ (b : Bool). changed (changed r.taken p true) p b) (sym free) ∙ changed-back r.taken p true)

-- a pin that isn't taken is in no list
pub free-out : (f : ℕ → List ℕ) (taken : ℕ → Bool) (p : ℕ) → AreOnce f taken → taken p ≡ false → IsOut f p
free-out f taken p once free n = false_from_ne_true _ (λ h. false≢true (sym free ∙ once.members n p h))

pub drop-undoes : (r : Rings) (p gate driver : ℕ) → AreRings r → r.taken p ≡ false → dropped p (linked p gate driver r) ≡ r
drop-undoes r p gate driver i free =
    ap (returned p) (unlink-undoes (claimed p r) p gate driver (free-out _ _ p i.inputs free) (free-out _ _ p i.fanouts free)) ∙ give_back-undoes r p free
