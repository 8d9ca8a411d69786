-- The extract of a main-tidy gated net is tidy.
use Rattle.std.proofs.Common.{Bool, Option, Some, [], ap, arith, false, length, map, not, refl, subst, sym, true, ℕ, ◌<◌, ◌∙◌, ◌∷◌, ◌≡◌, ◌≤◌}
use Rattle.std.specs.Prelude.{List, nat_eq, nat_lt, slice_get, ◌&&◌}
use Rattle.std.proofs.lemmas.Bool.{eq-eqb, eqb-true, lt-ltb, ltb-true}
use Rattle.std.proofs.lemmas.List.{length-map}
use Rattle.gate_net.specs.Net.{IsGate, Net, drivers_of}
use Rattle.joined_nets.specs.Joined.{first_gate}
use Rattle.rm_base.proofs.Public.{and_first, and_second, both_and, not_excludes}
use Rattle.wire_edit.specs.Laws.{IsTidying, TidyMeans}
use Rattle.wire_edit.specs.Order.{IsTidy, node}
use Rattle.wire_edit.specs.Steps.{Applies, is_not_at, same_some}
use Rattle.wire_edit.specs.Tests.{constant_at, driver_at, is_gate, is_in_use, is_junction, is_not, is_present, is_repeated, reads_several}
use Rattle.wire_edit.specs.declared.steps.Step.{Step}
use Rattle.wire_edit.specs.declared.steps.Step.TheVariants.{Add, Const, Dead, Fix, NewNot, NoPins, OnePin, Same, Twice, Twin}
use Rattle.wire_edit.proofs.Public.{gate_is, junction_gate, not_gate, several_gate}
use Rattle.care_opt.specs.Extract.{extract, new_number}
use Rattle.care_opt.specs.Inner.Standing.{CanGate, IsGatedOver}
use Rattle.care_opt.specs.MainSteps.{IsMainTidy}
use Rattle.care_opt.proofs.Extracted.{LiveMain, constant_same, drivers_same, gate_same, junction_same, lower, not_same, repeated_same, same_of, several_same, use_from, use_to}
use Rattle.care_opt.proofs.Numbering.{extract_from, main, main_at, number_falls, take_below}
use Rattle.care_opt.proofs.Standing.{gate_high}

module _ (one two : Net) (can : CanGate one two) (net : Net) (over : IsGatedOver one two net) where
  abbrev b : ℕ
  b = length one.nodes

  abbrev f : ℕ → ℕ
  f = new_number (main b net)

  abbrev E : Net
  E = extract b net

  -- a gate of the extract is a main gate
  record Old (y : ℕ) : Type 0 where
    old : ℕ
    alive : LiveMain b net old
    number : f old ≡ y

  old_of : (y : ℕ) → is_gate E y ≡ true → Old y
  old_of y e =
      let g : IsGate E y = gate_is E y e in
      let from = extract_from b net y (record { kind = g.0; drivers = g.1.0.0 }) g.1.0.1 in
      let lt : from.old < b = take_below net.nodes b from.old from.node from.there in
      record { old = from.old; alive = (lt, (from.node, sym (main_at b net from.old lt) ∙ from.there)); number = from.number }

  high : (x : ℕ) → is_gate net x ≡ true → first_gate one ≤ x
  high x e = let up = gate_high net x over.formed (gate_is net x e) in let same = over.sources in omega (arith, up, same)

  module _ (is_tidy : IsMainTidy b net) where
    no_const : (x p : ℕ) → LiveMain b net x → (is_gate E (f x) && (is_in_use E (f x) && is_present (constant_at E (f x) p))) ≡ true → ⊥
    no_const x p at e =
        let g : is_gate net x ≡ true = sym (gate_same b net x at) ∙ and_first (is_gate E (f x)) _ e in
        let rest = and_second (is_gate E (f x)) _ e in
        let u : is_in_use net x ≡ true = use_to one two can net over x at (and_first (is_in_use E (f x)) _ rest) in
        let c : is_present (constant_at net x p) ≡ true = ap (λ (o : Option Bool). is_present o) (sym (constant_same b net x p at (lower one two can net over x at.0))) ∙ and_second (is_in_use E (f x)) _ rest in
        is_tidy (Const (node x) p) tt at.0 (both_and (is_gate net x) _ g (both_and (is_in_use net x) _ u c))

    no_same : (x p : ℕ) → LiveMain b net x → (reads_several E (f x) && (is_in_use E (f x) && is_repeated (drivers_of E (f x)) p)) ≡ true → ⊥
    no_same x p at e =
        let j : reads_several net x ≡ true = sym (several_same b net x at) ∙ and_first (reads_several E (f x)) _ e in
        let rest = and_second (reads_several E (f x)) _ e in
        let u : is_in_use net x ≡ true = use_to one two can net over x at (and_first (is_in_use E (f x)) _ rest) in
        let r : is_repeated (drivers_of net x) p ≡ true = repeated_same b net x p at (lower one two can net over x at.0) (and_second (is_in_use E (f x)) _ rest) in
        is_tidy (Same (node x) p) tt at.0 (both_and (reads_several net x) _ j (both_and (is_in_use net x) _ u r))

    size_same : (x : ℕ) → LiveMain b net x → length (drivers_of E (f x)) ≡ length (drivers_of net x)
    size_same x at = ap (λ (ds : List ℕ). length ds) (drivers_same b net x at) ∙ length-map (drivers_of net x) f

    sized : (x k : ℕ) → LiveMain b net x → (is_junction E (f x) && (is_in_use E (f x) && nat_eq (length (drivers_of E (f x))) k)) ≡ true → (is_junction net x && (is_in_use net x && nat_eq (length (drivers_of net x)) k)) ≡ true
    sized x k at e =
        let j : is_junction net x ≡ true = sym (junction_same b net x at) ∙ and_first (is_junction E (f x)) _ e in
        let rest = and_second (is_junction E (f x)) _ e in
        let u : is_in_use net x ≡ true = use_to one two can net over x at (and_first (is_in_use E (f x)) _ rest) in
        let n : nat_eq (length (drivers_of net x)) k ≡ true = ap (λ (i : ℕ). nat_eq i k) (sym (size_same x at)) ∙ and_second (is_in_use E (f x)) _ rest in
        both_and (is_junction net x) _ j (both_and (is_in_use net x) _ u n)

    no_twice : (x : ℕ) → LiveMain b net x → (is_not E (f x) && (is_in_use E (f x) && is_not_at E (driver_at E (f x) 0))) ≡ true → ⊥
    no_twice x at e =
        let n : is_not net x ≡ true = sym (not_same b net x at) ∙ and_first (is_not E (f x)) _ e in
        let rest = and_second (is_not E (f x)) _ e in
        let u : is_in_use net x ≡ true = use_to one two can net over x at (and_first (is_in_use E (f x)) _ rest) in
        let i : is_not_at E (slice_get (map f (drivers_of net x)) 0) ≡ true = ap (λ (ds : List ℕ). is_not_at E (slice_get ds 0)) (sym (drivers_same b net x at)) ∙ and_second (is_in_use E (f x)) _ rest in
        is_tidy (Twice (node x)) tt at.0 (both_and (is_not net x) _ n (both_and (is_in_use net x) _ u (inner (drivers_of net x) (λ d is. lower one two can net over x at.0 0 d is) i)))
      where
        inner : (ds : List ℕ) → ((d : ℕ) → slice_get ds 0 ≡ Some d → LiveMain b net d) → is_not_at E (slice_get (map f ds) 0) ≡ true → is_not_at net (slice_get ds 0) ≡ true
        inner [] h e = e
        inner (d ∷ ds) h e = sym (not_same b net d (h d refl)) ∙ e

    no_twin : (x z : ℕ) → LiveMain b net x → LiveMain b net z
        → (is_not E (f x) && (is_in_use E (f x) && (is_not E (f z) && (nat_lt (f z) (f x) && same_some (driver_at E (f x) 0) (driver_at E (f z) 0))))) ≡ true → ⊥
    no_twin x z at at' e =
        let n : is_not net x ≡ true = sym (not_same b net x at) ∙ and_first (is_not E (f x)) _ e in
        let r1 = and_second (is_not E (f x)) _ e in
        let u : is_in_use net x ≡ true = use_to one two can net over x at (and_first (is_in_use E (f x)) _ r1) in
        let r2 = and_second (is_in_use E (f x)) _ r1 in
        let m : is_not net z ≡ true = sym (not_same b net z at') ∙ and_first (is_not E (f z)) _ r2 in
        let r3 = and_second (is_not E (f z)) _ r2 in
        let less : z < x = number_falls (main b net) z x at.1.0 (main_at b net x at.0 ∙ at.1.1) (ltb-true (f z) (f x) (and_first (nat_lt (f z) (f x)) _ r3)) in
        let same : same_some (slice_get (map f (drivers_of net x)) 0) (slice_get (map f (drivers_of net z)) 0) ≡ true =
        ap (λ (ds : List ℕ). same_some (slice_get ds 0) (slice_get (map f (drivers_of net z)) 0)) (sym (drivers_same b net x at))
        ∙ (ap (λ (ds : List ℕ). same_some (driver_at E (f x) 0) (slice_get ds 0)) (sym (drivers_same b net z at')) ∙ and_second (nat_lt (f z) (f x)) _ r3) in
        let s : same_some (slice_get (drivers_of net x) 0) (slice_get (drivers_of net z) 0) ≡ true = inner (drivers_of net x) (drivers_of net z) (λ d is. lower one two can net over x at.0 0 d is) (λ d is. lower one two can net over z at'.0 0 d is) same in
        is_tidy (Twin (node x) (node z)) tt at.0 (both_and (is_not net x) _ n (both_and (is_in_use net x) _ u (both_and (is_not net z) _ m (both_and (nat_lt z x) _ (lt-ltb z x less) s))))
      where
        inner : (ds cs : List ℕ) → ((d : ℕ) → slice_get ds 0 ≡ Some d → LiveMain b net d) → ((d : ℕ) → slice_get cs 0 ≡ Some d → LiveMain b net d) → same_some (slice_get (map f ds) 0) (slice_get (map f cs) 0) ≡ true → same_some (slice_get ds 0) (slice_get cs 0) ≡ true
        inner [] cs h k e = e
        inner (d ∷ ds) [] h k e = e
        inner (d ∷ ds) (c ∷ cs) h k e = eq-eqb d c (same_of b net d c (h d refl) (k c refl) (eqb-true (f d) (f c) e))

    no_dead : (x : ℕ) → LiveMain b net x → (is_gate E (f x) && not (is_in_use E (f x))) ≡ true → ⊥
    no_dead x at e =
        let g : is_gate net x ≡ true = sym (gate_same b net x at) ∙ and_first (is_gate E (f x)) _ e in
        by_use (is_in_use net x) refl g
      where
        by_use : (t : Bool) → is_in_use net x ≡ t → is_gate net x ≡ true → ⊥
        by_use true u g = not_excludes (is_in_use E (f x)) (and_second (is_gate E (f x)) _ e) (use_from one two can net over x at (high x g) u)
        by_use false u g = is_tidy (Dead (node x)) tt at.0 (both_and (is_gate net x) _ g (ap not u))

    not_there : (y : ℕ) → is_not E y ≡ true → is_gate E y ≡ true
    not_there y e = not_gate E y e

    none_applies : (step : Step) → IsTidying step → Applies E step → ⊥
    none_applies (Add gate other) t a = t
    none_applies (Fix gate position value) t a = t
    none_applies (NewNot other) t a = t
    none_applies (Const gate position) t a =
        let o = old_of gate.0 (and_first (is_gate E gate.0) _ a) in
        no_const o.old position o.alive (subst (λ (y : ℕ). Applies E (Const (node y) position)) (sym o.number) a)
    none_applies (Same gate position) t a =
        let o = old_of gate.0 (several_gate E gate.0 (and_first (reads_several E gate.0) _ a)) in
        no_same o.old position o.alive (subst (λ (y : ℕ). Applies E (Same (node y) position)) (sym o.number) a)
    none_applies (NoPins gate) t a =
        let o = old_of gate.0 (junction_gate E gate.0 (and_first (is_junction E gate.0) _ a)) in
        is_tidy (NoPins (node o.old)) tt o.alive.0 (sized o.old 0 o.alive (subst (λ (y : ℕ). Applies E (NoPins (node y))) (sym o.number) a))
    none_applies (OnePin gate) t a =
        let o = old_of gate.0 (junction_gate E gate.0 (and_first (is_junction E gate.0) _ a)) in
        is_tidy (OnePin (node o.old)) tt o.alive.0 (sized o.old 1 o.alive (subst (λ (y : ℕ). Applies E (OnePin (node y))) (sym o.number) a))
    none_applies (Twice gate) t a =
        let o = old_of gate.0 (not_there gate.0 (and_first (is_not E gate.0) _ a)) in
        no_twice o.old o.alive (subst (λ (y : ℕ). Applies E (Twice (node y))) (sym o.number) a)
    none_applies (Twin gate other) t a =
        let o = old_of gate.0 (not_there gate.0 (and_first (is_not E gate.0) _ a)) in
        let q = old_of other.0 (not_there other.0 (and_first (is_not E other.0) _ (and_second (is_in_use E gate.0) _ (and_second (is_not E gate.0) _ a)))) in
        no_twin o.old q.old o.alive q.alive (subst (λ (z : ℕ). Applies E (Twin (node (f o.old)) (node z))) (sym q.number) (subst (λ (y : ℕ). Applies E (Twin (node y) other)) (sym o.number) a))
    none_applies (Dead gate) t a =
        let o = old_of gate.0 (and_first (is_gate E gate.0) _ a) in
        no_dead o.old o.alive (subst (λ (y : ℕ). Applies E (Dead (node y))) (sym o.number) a)

    pub extract_tidy : TidyMeans → IsTidy E
    extract_tidy means = (means E).1 none_applies
