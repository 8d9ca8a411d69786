-- The pins that undos hold are loose, and no pin is held twice.
use Rattle.std.proofs.Common.{◌≡◌, ◌≢◌, ℕ, ◌+◌, ◌-◌, Bool, true, false, List, [], ◌∷◌, ◌++◌, length, take, drop, subst, Option, Some, refl, sym, ap, ◌∙◌, arith, inl, inr}
use Rattle.std.specs.FinSet as finset
use Rattle.std.proofs.lemmas.Bool.{cases_eq, ne_eqb, eq-eqb, false≢true, or_parts, or_cases, or_left, or_right}
use Rattle.std.proofs.lemmas.Bool.Decides.{eqb_tells, nat_tests}
use Rattle.std.proofs.lemmas.List.{take-append-drop}
use Rattle.gate_net.specs.declared.Kind.{Kind}
use Rattle.pin_pool.proofs.Public.{changed-other, changed-same, has-append, has-put_after}
use Rattle.pin_pool.specs.Ring.{has, without, IsApart}
use Rattle.pin_pool.specs.Rings.{IsLoose}
use Rattle.pin_pool.specs.Pins.{Pins, put_after}
use Rattle.pin_pool.specs.declared.names.PinNo.{PinNo}
use Rattle.pin_pool.specs.declared.names.Slot.{Slot}
use Rattle.gate_graph.specs.declared.undo_list.Undo.{Undo}
use Rattle.gate_graph.specs.declared.undo_list.Undo.TheVariants.{Appended, Removed, Redriven, Moved, Made, Retired, Turned}
use Rattle.pin_pool.specs.Rings.{rings_of, relinked, returned, changed, all_without, IsOut}
use Rattle.gate_graph.specs.Wirings.{Wiring, wiring_of, kind_at}
use Rattle.gate_graph.specs.Undoing.{CanRelink, CanTakeBack, taken_back, CanGoBack}
use Rattle.gate_graph.specs.Holds.{held_by, held}
use Rattle.gate_graph.specs.Inner.Holds.{IsHeld, AreHeld}

without-keeps : (p q : ℕ) (xs : List ℕ) → q ≢ p → has q (without p xs) ≡ has q xs
without-keeps p q [] ne = refl
without-keeps p q (x ∷ xs) ne = elim (cases_eq p x) [
  | inl is ↦ rw (eq-eqb p x is, ne_eqb q x (λ same. ne (same ∙ sym is))) refl
  | inr ne' ↦ rw (ne_eqb p x ne', without-keeps p q xs ne) refl
]

out-without : (f : ℕ → List ℕ) (p q : ℕ) → q ≢ p → IsOut (all_without p f) q → IsOut f q
out-without f p q ne o n = sym (without-keeps p q (f n) ne) ∙ o n

-- a pin out of the lists with another at one number
out-put : (f : ℕ → List ℕ) (g p q : ℕ) (b : Option PinNo) → IsOut (changed f g (put_after (f g) b p)) q → IsOut f q × (q ≢ p)
out-put f g p q b o =
    let at : has q (put_after (f g) b p) ≡ false = ap (has q) (sym (changed-same f g (put_after (f g) b p))) ∙ o g in
    let parts = or_parts _ _ (sym (has-put_after (f g) b p q) ∙ at) in (
      λ n. elim (cases_eq n g) [
        | inl is ↦ rw is parts.1
        | inr ne ↦ ap (has q) (sym (changed-other f g (put_after (f g) b p) n ne)) ∙ o n
      ],
      λ is. (let yes' = eq-eqb q p is in false≢true (sym parts.0 ∙ yes')),
    )

out-back : (f : ℕ → List ℕ) (from to n q : ℕ) → from ≢ to → f from ≡ [] → IsOut (changed (changed f to (take n (f to))) from (drop n (f to))) q → IsOut f q
out-back f from to n q apart empty o m = elim (cases_eq m from) [
  | inl is ↦ rw (is, empty) refl
  | inr ne ↦ elim (cases_eq m to) [
    | inr ne' ↦ ap (has q) (sym (changed-other (changed f to (take n (f to))) from (drop n (f to)) m ne ∙ changed-other f to (take n (f to)) m ne')) ∙ o m
    | inl is ↦
        let front : has q (take n (f to)) ≡ false = ap (has q) (sym (changed-other (changed f to (take n (f to))) from (drop n (f to)) to (λ s. apart (sym s)) ∙ changed-same f to (take n (f to)))) ∙ o to in
        let back : has q (drop n (f to)) ≡ false = ap (has q) (sym (changed-same (changed f to (take n (f to))) from (drop n (f to)))) ∙ o from in
        rw is (ap (has q) (sym (take-append-drop n (f to))) ∙ has-append (take n (f to)) (drop n (f to)) q ∙ rw (front, back) refl)
  ]
]

not-dropped : (taken : ℕ → Bool) (p q : ℕ) → changed taken p false q ≡ true → (taken q ≡ true) × (q ≢ p)
not-dropped taken p q h = elim (cases_eq q p) [
  | inl is ↦ absurd (false≢true (sym (ap (changed taken p false) is ∙ changed-same taken p false) ∙ h))
  | inr ne ↦ (sym (changed-other taken p false q ne) ∙ h, ne)
]

held-relinked : (w : Wiring) (kind : ℕ → Option Kind) (pin : PinNo) (slot : Slot) (q : ℕ) → IsHeld (record { kind = kind; rings = relinked pin.0 slot w.rings }) q → IsHeld w q × (has q (pin.0 ∷ []) ≡ false)
held-relinked w kind pin slot q h =
    let a = out-put w.rings.inputs slot.gate pin.0 q slot.in_gate h.1.0 in
    let b = out-put w.rings.fanouts slot.driver pin.0 q slot.in_driver h.1.1 in
    ((h.0, (a.0, b.0)), rw (ne_eqb q pin.0 a.1) refl)

-- what is held before an entry is taken back is held afterwards
held-before : (w : Wiring) (e : Undo) (q : ℕ) → CanTakeBack w e → IsHeld (taken_back e w) q → IsHeld w q × (has q (held_by e) ≡ false)
held-before w (Appended pin) q can h =
    let t = not-dropped w.rings.taken pin.0 q h.0 in
    ((t.0, (out-without w.rings.inputs pin.0 q t.1 h.1.0, out-without w.rings.fanouts pin.0 q t.1 h.1.1)), refl)
held-before w (Removed pin slot) q can h = held-relinked w (λ n. w.kind n) pin slot q h
held-before w (Redriven pin slot) q can h =
    let b = out-put (all_without pin.0 w.rings.fanouts) slot.driver pin.0 q slot.in_driver h.1.1 in
    ((h.0, (h.1.0, out-without w.rings.fanouts pin.0 q b.1 b.0)), refl)
held-before w (Moved splice) q can h =
    ((h.0, (h.1.0, out-back w.rings.fanouts splice.from splice.to (length (w.rings.fanouts splice.to) - splice.count) q can.1.1.0 can.1.1.1.0 h.1.1)), refl)
held-before w (Made node pin) q can h =
    let t = not-dropped w.rings.taken pin.0 q h.0 in
    ((t.0, (out-without w.rings.inputs pin.0 q t.1 h.1.0, out-without w.rings.fanouts pin.0 q t.1 h.1.1)), refl)
held-before w (Retired node kind) q can h = (h, refl)
held-before w (Turned pin slot kind) q can h = held-relinked w (changed w.kind slot.gate (Some kind)) pin slot q h

relink-held : (w : Wiring) (pin : PinNo) (slot : Slot) (q : ℕ) → CanRelink w pin slot → has q (pin.0 ∷ []) ≡ true → IsHeld w q
relink-held w pin slot q can h = elim (eqb_tells q pin.0) [
  | inl t ↦ rw t.1 (can.0, (can.1.0, can.1.1.0))
  | inr t ↦ let wrong : false ≡ true = rw t.0 at h in cc
]

held-now : (w : Wiring) (e : Undo) (q : ℕ) → CanTakeBack w e → has q (held_by e) ≡ true → IsHeld w q
held-now w (Removed pin slot) q can h = relink-held w pin slot q can h
held-now w (Turned pin slot kind) q can h = relink-held w pin slot q can h
held-now w (Appended pin) q can h = cc
held-now w (Redriven pin slot) q can h = cc
held-now w (Moved splice) q can h = cc
held-now w (Made node pin) q can h = cc
held-now w (Retired node kind) q can h = cc

apart-pin : (pin : PinNo) (ps : List ℕ) → IsApart ps → ((q : ℕ) → has q ps ≡ true → has q (pin.0 ∷ []) ≡ false) → IsApart (pin.0 ∷ ps)
apart-pin pin ps a h = (clear (has pin.0 ps) refl, a)
  where
    clear : (b : Bool) → has pin.0 ps ≡ b → b ≡ false
    clear true k = (let out : has pin.0 (pin.0 ∷ []) ≡ false = h pin.0 k in absurd (grind (arith, nat_tests)))
    clear false k = refl

apart-both : (e : Undo) (ps : List ℕ) → IsApart ps → ((q : ℕ) → has q ps ≡ true → has q (held_by e) ≡ false) → IsApart (held_by e ++ ps)
apart-both (Removed pin slot) ps a h = apart-pin pin ps a h
apart-both (Turned pin slot kind) ps a h = apart-pin pin ps a h
apart-both (Appended pin) ps a h = a
apart-both (Redriven pin slot) ps a h = a
apart-both (Moved splice) ps a h = a
apart-both (Made node pin) ps a h = a
apart-both (Retired node kind) ps a h = a

pub are-held : (w : Wiring) (es : List Undo) → CanGoBack w es → AreHeld w (held es)
are-held w [] go = record { apart = tt; each = λ q h. cc }
are-held w (e ∷ es) go =
    let rest = are-held (taken_back e w) es go.1 in
    record {
      apart = apart-both e (held es) rest.apart (λ q h. (held-before w e q go.0 (rest.each q h)).1);
      each = λ q h. elim (or_cases (has q (held_by e)) (has q (held es)) (sym (has-append (held_by e) (held es) q) ∙ h)) [
        | inl now ↦ held-now w e q go.0 now
        | inr later ↦ (held-before w e q go.0 (rest.each q later)).0
      ];
    }

-- a held pin is given back
pub held-step : (kinds : List (Option Kind)) (v w : Pins) (pin : PinNo) (e : Undo) (es fs : List Undo) → es ≡ e ∷ fs → held_by e ≡ pin.0 ∷ [] → AreHeld (wiring_of kinds v) (held es) → rings_of w ≡ returned pin.0 (rings_of v) → AreHeld (wiring_of kinds w) (held fs)
held-step kinds v w pin e es fs is ise h now =
    let here : held es ≡ pin.0 ∷ held fs = ap held is ∙ ap (λ (l : List ℕ). l ++ held fs) ise in
    let apart : IsApart (pin.0 ∷ held fs) = subst (λ (l : List ℕ). IsApart l) here h.apart in
    let x : Wiring = record { kind = λ n. kind_at kinds n; rings = returned pin.0 (rings_of v) } in
    let is : wiring_of kinds w ≡ x = rw now refl in
    subst (λ (y : Wiring). AreHeld y (held fs)) (sym is) (record {
      apart = apart.1;
      each = λ q m.
          let was = h.each q (ap (has q) here ∙ or_right _ _ m) in
          let ne : q ≢ pin.0 = λ s. false≢true (sym apart.0 ∙ ap (λ (n : ℕ). has n (held fs)) (sym s) ∙ m) in
          (changed-other (λ (n : ℕ). finset.contains v.taken n) pin.0 false q ne ∙ was.0, was.1);
    })

-- an entry that holds none is passed over
pub held-same : (e : Undo) (es fs : List Undo) → es ≡ e ∷ fs → held_by e ≡ [] → held es ≡ held fs
held-same e es fs is none = ap held is ∙ ap (λ (l : List ℕ). l ++ held fs) none

pub held-here : (kinds : List (Option Kind)) (v : Pins) (pin : PinNo) (e : Undo) (es fs : List Undo) → es ≡ e ∷ fs → held_by e ≡ pin.0 ∷ [] → AreHeld (wiring_of kinds v) (held es) → IsLoose (rings_of v) pin.0
held-here kinds v pin e es fs is ise h =
    let here : held es ≡ pin.0 ∷ held fs = ap held is ∙ ap (λ (l : List ℕ). l ++ held fs) ise in
    let was = h.each pin.0 (ap (has pin.0) here ∙ or_left _ _ (eq-eqb pin.0 pin.0 refl)) in
    (was.0, was.1.0)

pub held-count : (pin : PinNo) (e : Undo) (es fs : List Undo) → es ≡ e ∷ fs → held_by e ≡ pin.0 ∷ [] → length (held es) ≡ length (held fs) + 1
held-count pin e es fs is ise =
    let here : held es ≡ pin.0 ∷ held fs = ap held is ∙ ap (λ (l : List ℕ). l ++ held fs) ise in
    ap length here ∙ omega arith
