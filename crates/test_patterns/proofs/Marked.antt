-- Letting faults stand under a new pattern.
use Rattle.std.proofs.Common.{◌≡◌, ℕ, zero, suc, ◌+◌, ◌<◌, ◌⊎◌, inl, inr, Bool, true, false, IsTrue, Option, None, Some, List, [], ◌∷◌, length, refl, sym, ◌∙◌, ap, subst, arith}
use Rattle.std.specs.Prelude.{slice_get, slice_set}
use Rattle.std.proofs.lemmas.Bool.{cases_eq}
use Rattle.rm_base.proofs.Public.{set_other, set_there, some_is}
use Rattle.fault_sim.specs.Words.{lane}
use Rattle.test_patterns.specs.Inner.Groups.{AreMarked, IsTaken}
use Rattle.test_patterns.specs.declared.gathering.Caught.{Caught}

module _ (caught : List Caught) (i pattern : ℕ) (old : List (Option ℕ)) where
  pub marked_none : AreMarked caught 0 i pattern old old false
  marked_none = record {
    size = refl;
    each = λ j. inl refl;
    all = λ j taken none. absurd (let e : taken.place < 0 = taken.early in omega (arith, e));
    some = λ t. absurd (let bad : false ≡ true = t in cc);
    none = λ e. refl;
  }

  taken_more : (count j : ℕ) → IsTaken caught count i j → IsTaken caught (count + 1) i j
  taken_more count j t = record { place = t.place; one = t.one; early = omega (arith, t.early); there = t.there; at_is = t.at_is; detects = t.detects }

  -- a fault that is taken is one of those before, or the one at the next place
  taken_cases : (count j : ℕ) (one : Caught) → slice_get caught count ≡ Some one → IsTaken caught (count + 1) i j → IsTaken caught count i j ⊎ ((one.at ≡ j) × IsTrue (lane i one.lanes))
  taken_cases count j one there t = elim (cases_eq t.place count) [
    | inl same ↦
        let is : one ≡ t.one = some_is one t.one (sym there ∙ ap (slice_get caught) (sym same) ∙ t.there) in
        inr (ap (λ (c : Caught). c.at) is ∙ t.at_is, subst (λ (c : Caught). IsTrue (lane i c.lanes)) (sym is) t.detects)
    | inr other ↦ inl (record { place = t.place; one = t.one; early = (let e : t.place < count + 1 = t.early in omega (arith, e, other)); there = t.there; at_is = t.at_is; detects = t.detects })
  ]

  each_more : (count : ℕ) (new : List (Option ℕ)) → ((j : ℕ) → (slice_get new j ≡ slice_get old j) ⊎ ((slice_get old j ≡ Some None) × ((slice_get new j ≡ Some (Some pattern)) × IsTaken caught count i j)))
      → (j : ℕ) → (slice_get new j ≡ slice_get old j) ⊎ ((slice_get old j ≡ Some None) × ((slice_get new j ≡ Some (Some pattern)) × IsTaken caught (count + 1) i j))
  each_more count new h j = elim (h j) [
    | inl e ↦ inl e
    | inr (none, (is, taken)) ↦ inr (none, (is, taken_more count j taken))
  ]

  -- the next one isn't detected by the lane, or stands under a pattern already
  pub marked_skip : (count : ℕ) (new : List (Option ℕ)) (any : Bool) (one : Caught) → slice_get caught count ≡ Some one → AreMarked caught count i pattern old new any
      → (IsTrue (lane i one.lanes) → slice_get new one.at ≡ Some None → ⊥) → AreMarked caught (count + 1) i pattern old new any
  marked_skip count new any one there m never = record {
    size = m.size;
    each = each_more count new m.each;
    all = λ j taken none. elim (taken_cases count j one there taken) [
      | inl before ↦ m.all j before none
      | inr (at, detects) ↦ never detects (ap (slice_get new) at ∙ none)
    ];
    some = m.some;
    none = m.none;
  }

  length_changed : (xs : List (Option ℕ)) (p : ℕ) (x : Option ℕ) → length (slice_set xs p x) ≡ length xs
  length_changed [] p x = refl
  length_changed (y ∷ xs) zero x = refl
  length_changed (y ∷ xs) (suc p) x = ap suc (length_changed xs p x)

  -- it is opened, and stands under the pattern now
  pub marked_more : (count : ℕ) (new : List (Option ℕ)) (any : Bool) (one : Caught) → slice_get caught count ≡ Some one → AreMarked caught count i pattern old new any
      → IsTrue (lane i one.lanes) → slice_get new one.at ≡ Some None → AreMarked caught (count + 1) i pattern old (slice_set new one.at (Some pattern)) true
  marked_more count new any one there m detects opened = record {
    size = length_changed new one.at (Some pattern) ∙ m.size;
    each = λ j. elim (cases_eq j one.at) [
      | inl same ↦ inr (was_open j same, (now j same, record { place = count; one = one; early = omega arith; there = there; at_is = sym same; detects = detects }))
      | inr other ↦ elim (m.each j) [
        | inl e ↦ inl (set_other new one.at j (Some pattern) other ∙ e)
        | inr (none, (is, taken)) ↦ inr (none, (set_other new one.at j (Some pattern) other ∙ is, taken_more count j taken))
      ]
    ];
    all = λ j taken none. elim (cases_eq j one.at) [
      | inl same ↦ not_none j (now j same) none
      | inr other ↦
          let before : slice_get new j ≡ Some None = sym (set_other new one.at j (Some pattern) other) ∙ none in
          elim (taken_cases count j one there taken) [
            | inl early ↦ m.all j early before
            | inr (at, d) ↦ absurd (other (sym at))
          ]
    ];
    some = λ t. (one.at, now one.at refl);
    none = λ e. absurd (let bad : true ≡ false = e in cc);
  }
    where
      now : (j : ℕ) → j ≡ one.at → slice_get (slice_set new one.at (Some pattern)) j ≡ Some (Some pattern)
      now j same = ap (slice_get (slice_set new one.at (Some pattern))) same ∙ set_there new one.at None (Some pattern) opened

      not_none : (j : ℕ) → slice_get (slice_set new one.at (Some pattern)) j ≡ Some (Some pattern) → slice_get (slice_set new one.at (Some pattern)) j ≡ Some None → ⊥
      not_none j is none = let bad : Some (Some pattern) ≡ Some None = sym is ∙ none in cc

      was_open : (j : ℕ) → j ≡ one.at → slice_get old j ≡ Some None
      was_open j same = elim (m.each j) [
        | inl e ↦ sym e ∙ ap (slice_get new) same ∙ opened
        | inr (none, rest) ↦ none
      ]
