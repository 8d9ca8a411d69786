-- Modules whose calls go to lower ranks have no recursion.
use Rattle.std.proofs.Common.{◌≡◌, ◌<◌, ◌==◌, ◌+◌, ℕ, zero, suc, List, [], ◌∷◌, length, Bool, true, false, ◌||◌, ◌⊎◌, inl, inr, Option, None, Some, refl, sym, ap, ◌∙◌, subst, arith}
use Rattle.std.specs.Prelude.{slice_get}
use Rattle.std.specs.List.{list_any}
use Rattle.std.proofs.lemmas.Bool.{or_cases}
use Rattle.std.proofs.lemmas.Bool.Decides.{eqb_tells}
use Rattle.blif_format.specs.declared.refusal.FaultKind.TheVariants.{Recursive}
use Rattle.blif_format.specs.declared.refusal.ReadRefusal.{ReadRefusal}
use Rattle.blif_format.specs.FirstFault.{or_else, fault_if}
use Rattle.blif_flatten.specs.declared.modules.Link.{Link}
use Rattle.blif_flatten.specs.declared.modules.Module.{Module}
use Rattle.blif_flatten.specs.CallFaults.{first_of}
use Rattle.blif_flatten.specs.Recursion.{links_in, links_of, leads, is_recursive_call, recursion_at, recursion_from}
use Rattle.blif_flatten.specs.Laws.{AreRankedBy, RankedModulesHaveNoRecursion}

-- the item at some place passes no test
pub first-none : {A : Type 0} (test : A → Option ReadRefusal) (xs : List A) → ((j : ℕ) (x : A) → slice_get xs j ≡ Some x → test x ≡ None) → first_of test xs ≡ None
first-none test [] h = refl
first-none test (x ∷ xs) h =
    ap (λ (o : Option ReadRefusal). or_else o (first_of test xs)) (h zero x refl) ∙ first-none test xs (λ j y there. h (suc j) y there)

-- one of the items does
pub any-at : {A : Type 0} (test : A → Bool) (xs : List A) → list_any test xs ≡ true → (j : ℕ) × ((x : A) × ((slice_get xs j ≡ Some x) × (test x ≡ true)))
any-at test [] e = absurd cc
any-at test (x ∷ xs) e = elim (or_cases (test x) (list_any test xs) e) [
  | inl here ↦ (zero, (x, (refl, here)))
  | inr later ↦ let r = any-at test xs later in (suc r.0, (r.1.0, (r.1.1.0, r.1.1.1)))
]

pub same-number : (a b : ℕ) → (a == b) ≡ true → a ≡ b
same-number a b e = elim (eqb_tells a b) [ inl t ↦ t.1 | inr f ↦ let bad : true ≡ false = sym e ∙ f.0 in absurd cc ]

module _ (modules : List Module) (rank : ℕ → ℕ) (ranked : AreRankedBy modules rank) where
  link-lower : (k j : ℕ) (l : Link) → slice_get (links_of modules k) j ≡ Some l → rank l.called < rank k
  link-lower k j l e = go (slice_get modules k) refl e
    where
      none : (i : ℕ) → slice_get [] i ≡ Some l → rank l.called < rank k
      none zero e = absurd cc
      none (suc i) e = absurd cc

      go : (o : Option Module) → slice_get modules k ≡ o → slice_get (links_in o) j ≡ Some l → rank l.called < rank k
      go None is at = none j at
      go (Some m) is at = ranked.lower k j m l is at

  one-lower : (k j b : ℕ) (l : Link) → slice_get (links_of modules k) j ≡ Some l → (l.called == b) ≡ true → rank b < rank k
  one-lower k j b l at is = subst (λ (x : ℕ). rank x < rank k) (same-number l.called b is) (link-lower k j l at)

  leads-lower : (n k b : ℕ) → leads n modules k b ≡ true → rank b < rank k
  leads-lower zero k b e =
      let found = any-at (λ (l : Link). l.called == b) (links_of modules k) e in
      one-lower k found.0 b found.1.0 found.1.1.0 found.1.1.1
  leads-lower (suc n) k b e =
      let found = any-at (λ (l : Link). (l.called == b) || leads n modules l.called b) (links_of modules k) e in
      by_case found.0 found.1.0 found.1.1.0 (or_cases (found.1.0.called == b) (leads n modules found.1.0.called b) found.1.1.1) (leads-lower n found.1.0.called b)
    where
      by_case : (j : ℕ) (l : Link) → slice_get (links_of modules k) j ≡ Some l → ((l.called == b) ≡ true) ⊎ (leads n modules l.called b ≡ true) → (leads n modules l.called b ≡ true → rank b < rank l.called) → rank b < rank k
      by_case j l at (inl is) later = one-lower k j b l at is
      by_case j l at (inr is) later =
          let one : rank l.called < rank k = link-lower k j l at in
          let two : rank b < rank l.called = later is in
          omega (arith, one, two)

  not-recursive : (k j : ℕ) (m : Module) (l : Link) → slice_get modules k ≡ Some m → slice_get m.links j ≡ Some l → is_recursive_call modules k l.called ≡ false
  not-recursive k j m l known at = go (is_recursive_call modules k l.called) refl
    where
      below : rank l.called < rank k
      below = ranked.lower k j m l known at

      go : (t : Bool) → is_recursive_call modules k l.called ≡ t → t ≡ false
      go false e = refl
      go true e = elim (or_cases (l.called == k) (leads (length modules) modules l.called k) e) [
        | inl is ↦ let bad : rank k < rank k = subst (λ (x : ℕ). rank x < rank k) (same-number l.called k is) below in absurd (omega (arith, bad))
        | inr is ↦ let back : rank k < rank l.called = leads-lower (length modules) l.called k is in absurd (omega (arith, back, below))
      ]

  none-from : (k : ℕ) (ms : List Module) → ((i : ℕ) (m : Module) → slice_get ms i ≡ Some m → slice_get modules (k + i) ≡ Some m) → recursion_from modules k ms ≡ None
  none-from k [] h = refl
  none-from k (m ∷ ms) h =
      ap (λ (o : Option ReadRefusal). or_else o (recursion_from modules (suc k) ms))
      (first-none (recursion_at modules k) m.links (λ j l at.
      ap (λ (t : Bool). fault_if t Recursive l.place) (not-recursive k j m l (subst (λ (n : ℕ). slice_get modules n ≡ Some m) (zero-more k) (h zero m refl)) at)))
      ∙ none-from (suc k) ms (λ i d at. subst (λ (n : ℕ). slice_get modules n ≡ Some d) (one-more k i) (h (suc i) d at))
    where
      zero-more : (k : ℕ) → k + 0 ≡ k
      zero-more k = omega arith

      one-more : (k i : ℕ) → k + suc i ≡ suc k + i
      one-more k i = omega arith

pub no-recursion : RankedModulesHaveNoRecursion
no-recursion modules rank ranked = none-from modules rank ranked 0 modules (λ i m at. subst (λ (n : ℕ). slice_get modules n ≡ Some m) (none-more i) at)
  where
    none-more : (i : ℕ) → i ≡ 0 + i
    none-more i = omega arith
