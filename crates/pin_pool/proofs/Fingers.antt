-- Places in the list of a gate.
use Rattle.std.proofs.Common.{◌≡◌, ℕ, zero, suc, ◌+◌, ◌-◌, ◌<◌, ◌≤◌, true, false, cond, Some, None, Option, IfSome, List, [], ◌∷◌, length, drop, eqb, inl, inr, sym, ap, ◌∙◌, arith}
use Rattle.std.specs.Prelude.{slice_get}
use Rattle.std.proofs.lemmas.Bool.{cases_lt, eq-eqb}
use Rattle.std.proofs.lemmas.Bool.Decides.{nat_tests}
use Rattle.std.proofs.lemmas.List.{get_or_past, drop-drop, length-map}
use Rattle.std.proofs.Math.Seq.{drop-nil}
use Rattle.pin_pool.specs.Ring.{has, IsApart, without}
use Rattle.pin_pool.specs.Pins.{Pins, list_of}
use Rattle.pin_pool.specs.Inner.Links.{lists_of, list_at, links_of, link_of, walk_on, AreAtMost, AreLists}
use Rattle.pin_pool.specs.Inner.Pointed.{IsPointed}
use Rattle.pin_pool.specs.declared.finger.Finger.{Finger}
use Rattle.pin_pool.specs.declared.links.Pin.{Pin}
use Rattle.pin_pool.specs.declared.links.Ends.{Ends}
use Rattle.pin_pool.specs.declared.links.Side.{Side}
use Rattle.pin_pool.proofs.Chains.{walk-from}
use Rattle.pin_pool.proofs.PoolLemmas.{ring-within, ring-length}

-- what stands at a place is in the list
pub has-there : (xs : List ℕ) (k p : ℕ) → slice_get xs k ≡ Some p → has p xs ≡ true
has-there [] k p e = cc
has-there (x ∷ xs) zero p e = let same : x ≡ p = cc in grind (arith, nat_tests)
has-there (x ∷ xs) (suc k) p e = let rest : has p xs ≡ true = has-there xs k p e in grind (arith, nat_tests)

-- so that the number has a list
pub within-there : (lists : List (List ℕ)) (n k p : ℕ) → slice_get (list_of lists n) k ≡ Some p → n < length lists
within-there lists n k p e = elim (cases_lt n (length lists)) [
  | inl lt ↦ lt
  | inr le ↦ absurd (nothing (sym (ap (λ (xs : List ℕ). slice_get xs k) (get_or_past lists n [] le)) ∙ e))
]
  where
    nothing : slice_get {X = ℕ} [] k ≡ Some p → ⊥
    nothing e = cc

-- what follows a place
pub drop-there : (xs : List ℕ) (k p q : ℕ) (rest more : List ℕ) → drop k xs ≡ p ∷ rest → rest ≡ q ∷ more → slice_get xs (suc k) ≡ Some q
drop-there [] zero p q rest more e f = cc
drop-there [] (suc k) p q rest more e f = cc
drop-there (x ∷ xs) zero p q rest more e f = let same : xs ≡ q ∷ more = cc in ap (λ (ys : List ℕ). slice_get ys 0) same
drop-there (x ∷ xs) (suc k) p q rest more e f = drop-there xs k p q rest more e f

-- without the pin at a place, the next stands there
pub there-without : (xs : List ℕ) (k p q : ℕ) → IsApart xs → slice_get xs k ≡ Some p → slice_get xs (suc k) ≡ Some q → slice_get (without p xs) k ≡ Some q
there-without [] k p q a e f = cc
there-without (x ∷ xs) zero p q a e f =
    let same : p ≡ x = cc in
    ap (λ b. slice_get (cond b xs (x ∷ without p xs)) 0) (eq-eqb p x same) ∙ f
there-without (x ∷ xs) (suc k) p q a e f =
    let h : has p xs ≡ true = has-there xs k p e in
    let other : eqb p x ≡ false = grind (arith, nat_tests, a.0) in
    ap (λ b. slice_get (cond b xs (x ∷ without p xs)) (suc k)) other ∙ there-without xs k p q a.1 e f

-- what is left from a later place is left of what is left from an earlier one
pub later : (xs : List ℕ) (k m n : ℕ) → k + m ≡ n → drop m (drop k xs) ≡ drop n xs
later xs k m n e = drop-drop m k xs ∙ ap (λ j. drop j xs) e

pub has-drop : (xs : List ℕ) (k q : ℕ) → has q (drop k xs) ≡ true → has q xs ≡ true
has-drop xs zero q h = h
has-drop [] (suc k) q h = h
has-drop (x ∷ xs) (suc k) q h = let rest : has q xs ≡ true = has-drop xs k q h in grind (arith, nat_tests)

pub drop-few : (xs : List ℕ) (k n : ℕ) → length xs ≤ n → length (drop k xs) ≤ n
drop-few xs zero n le = le
drop-few [] (suc k) n le = le
drop-few (x ∷ xs) (suc k) n le = drop-few xs k n (omega (arith, le))

-- the walk from a pin on, along one side
pub ring-from : (side : Side) (pins pins0 : List Pin) (es : List Ends) (n k p : ℕ) → AreLists side pins es → slice_get (list_at (lists_of side pins es) n) k ≡ Some p → pins0 ≡ pins → walk_on side pins0 p ≡ drop k (list_at (lists_of side pins es) n)
ring-from side pins pins0 es n k p r there ep =
    let h : n < length (lists_of side pins es) = within-there (lists_of side pins es) n k p there in
    ap (λ (ps : List Pin). walk_on side ps p) ep
    ∙ walk-from 4294967295 (links_of side pins) n _ (list_at (lists_of side pins es) n) (suc (length pins)) k p (r.each n (omega (arith, r.sizes, h))) (omega (arith, length-map pins (link_of side))) there

-- the pins from one on are few
pub few-from : (side : Side) (pins : List Pin) (es : List Ends) (n k p : ℕ) → AreLists side pins es → slice_get (list_at (lists_of side pins es) n) k ≡ Some p → AreAtMost (drop k (list_at (lists_of side pins es) n)) (length pins)
few-from side pins es n k p r there =
    let h : n < length (lists_of side pins es) = within-there (lists_of side pins es) n k p there in
    record {
      within = λ q has. ring-within side pins es n r h q (has-drop (list_at (lists_of side pins es) n) k q has);
      short = drop-few (list_at (lists_of side pins es) n) k (length pins) (ring-length side pins es n r h);
    }

-- once the pin is taken out, the next one is at its place
pub pointed-after : (v w : Pins) (p gate position : ℕ) (next : Option Finger) → IsApart (list_of v.inputs gate) → slice_get (list_of v.inputs gate) position ≡ Some p → list_of w.inputs gate ≡ without p (list_of v.inputs gate) → IfSome next (λ f. (f.gate ≡ gate) × ((f.position ≡ position) × (slice_get (list_of v.inputs gate) (position + 1) ≡ Some f.pin.0))) → IsPointed w next
pointed-after v w p gate position None apart there gone at = tt
pointed-after v w p gate position (Some f) apart there gone (same, (place, after)) =
    let one : position + 1 ≡ suc position = omega arith in
    ap (λ n. slice_get (list_of w.inputs n) f.position) same
    ∙ ap (slice_get (list_of w.inputs gate)) place
    ∙ ap (λ (xs : List ℕ). slice_get xs position) gone
    ∙ there-without (list_of v.inputs gate) position p f.pin.0 apart there (ap (slice_get (list_of v.inputs gate)) (sym one) ∙ after)

pub skip-one : (xs rest : List ℕ) (p n : ℕ) → xs ≡ p ∷ rest → 0 < n → drop (n - 1) rest ≡ drop n xs
skip-one xs rest p n e lt =
    let one : n ≡ suc (n - 1) = omega (arith, lt) in
    sym (ap (drop n) e ∙ ap (λ k. drop k (p ∷ rest)) one)

pub skip-none : (xs : List ℕ) (n : ℕ) → xs ≡ [] → drop n xs ≡ []
skip-none xs n e = ap (drop n) e ∙ drop-nil n
