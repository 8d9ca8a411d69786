-- Numbers that fall along calls rank the modules.
use Rattle.std.proofs.Common.{◌≡◌, ◌≤◌, ◌+◌, ◌-◌, ℕ, zero, suc, List, [], ◌∷◌, length, take, None, Some, ◌⊎◌, inl, inr, refl, sym, ap, ◌∙◌, subst, arith}
use Rattle.std.specs.Prelude.{IfOk, OnOk, Result, Ok, Err, slice_get}
use Rattle.rm_base.proofs.Public.{pushed_stands, stands_below, take_one_more}
use Rattle.blif_reader.proofs.Public.{take_whole}
use Rattle.blif_flatten.specs.declared.modules.Module.{Module}
use Rattle.blif_flatten.specs.Laws.{AreRankedBy}
use Rattle.blif_flatten.specs.Recursion.{recursion_fault}
use Rattle.blif_flatten.proofs.NoRecursion.{no-recursion}
use Rattle.blif_flatten.specs.Inner.Ranks.{number_of, AreFalling, AreKnownCalls}

-- what holds of the items before one and of it holds of all of these
pub one-more : {A : Type 0} (P : A → Type 0) (xs : List A) (i : ℕ) (x : A) → slice_get xs i ≡ Some x → ((j : ℕ) (y : A) → slice_get (take i xs) j ≡ Some y → P y) → P x → (j : ℕ) (y : A) → slice_get (take (i + 1) xs) j ≡ Some y → P y
one-more {A = A} P xs i x at had now j y there = by_case (pushed_stands (take i xs) x j y (subst (λ (ys : List A). slice_get ys j ≡ Some y) (take_one_more xs i x at) there))
  where
    by_case : (slice_get (take i xs) j ≡ Some y) ⊎ ((j ≡ length (take i xs)) × (y ≡ x)) → P y
    by_case (inl before) = had j y before
    by_case (inr last) = subst P (sym last.1) now

pub ranked : (numbers : List ℕ) (modules : List Module) → AreFalling numbers modules → AreKnownCalls modules → AreRankedBy modules (λ k. number_of numbers k - 1)
ranked numbers modules falling known = record {
  small = λ k m at. let f = falling k m at in let a = f.positive in let b = f.small in omega (arith, a, b);
  known = known;
  lower = λ k j m l at link.
      let f = falling k m at in
      let there = stands_below modules l.called (known k j m l at link) in
      let g = falling l.called there.0 there.1 in
      let a = f.lower j l link in
      let b = g.positive in
      omega (arith, a, b);
}

pub falling-ranked : (numbers : List ℕ) (modules : List Module) → AreFalling numbers modules → AreKnownCalls modules → (rank : ℕ → ℕ) × AreRankedBy modules rank
falling-ranked numbers modules falling known = (λ (k : ℕ). number_of numbers k - 1, ranked numbers modules falling known)

pub falling-calm : (numbers : List ℕ) (modules : List Module) → AreFalling numbers modules → AreKnownCalls modules → recursion_fault modules ≡ None
falling-calm numbers modules falling known = no-recursion modules (λ (k : ℕ). number_of numbers k - 1) (ranked numbers modules falling known)

pub ok-of : {A E : Type 0} {P : A → Type 0} {Q : Type 0} (r : Result A E) → ((a : A) → P a → Q) → IfOk r P → OnOk r Q
ok-of (Ok a) f h = f a h
ok-of (Err e) f h = tt

length-take : {A : Type 0} (xs : List A) (i : ℕ) (x : A) → slice_get xs i ≡ Some x → length (take i xs) ≡ i
length-take [] zero x e = absurd cc
length-take [] (suc i) x e = absurd cc
length-take (y ∷ []) zero x e = refl
length-take (y ∷ z ∷ ys) zero x e = refl
length-take (y ∷ ys) (suc i) x e = ap suc (length-take ys i x e)

-- the same, by places
pub one-place-more : {A : Type 0} (P : ℕ → A → Type 0) (xs : List A) (i : ℕ) (x : A) → slice_get xs i ≡ Some x → ((j : ℕ) (y : A) → slice_get (take i xs) j ≡ Some y → P j y) → P i x → (j : ℕ) (y : A) → slice_get (take (i + 1) xs) j ≡ Some y → P j y
one-place-more {A = A} P xs i x at had now j y there = by_case (pushed_stands (take i xs) x j y (subst (λ (ys : List A). slice_get ys j ≡ Some y) (take_one_more xs i x at) there))
  where
    by_case : (slice_get (take i xs) j ≡ Some y) ⊎ ((j ≡ length (take i xs)) × (y ≡ x)) → P j y
    by_case (inl before) = had j y before
    by_case (inr last) = subst (λ (k : ℕ). P k y) (sym (last.0 ∙ length-take xs i x at)) (subst (P i) (sym last.1) now)

pub all-places : {A : Type 0} (P : ℕ → A → Type 0) (xs : List A) (i : ℕ) → length xs ≤ i → ((j : ℕ) (y : A) → slice_get (take i xs) j ≡ Some y → P j y) → (j : ℕ) (y : A) → slice_get xs j ≡ Some y → P j y
all-places {A = A} P xs i far had j y at = had j y (subst (λ (ys : List A). slice_get ys j ≡ Some y) (sym (take_whole xs i far)) at)
