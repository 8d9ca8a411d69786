-- The ranks of a ranked model are levels.
use Rattle.std.proofs.Common.{◌≡◌, ◌<◌, ℕ, zero, suc, false, List, [], ◌∷◌, length, refl, sym, ap, subst, arith}
use Rattle.std.specs.Prelude.{Option, None, Some, is_none, slice_get, unwrap_or}
use Rattle.std.specs.List.{AllByRecursion}
use Rattle.std.proofs.lemmas.Option.{slice_get_within}
use Rattle.rm_base.proofs.Public.{none_found, place_of_member}
use Rattle.rm_base.specs.Words.{Word}
use Rattle.rm_model.specs.Ranks.{cover_of, first_without_rank, rank_at, ranks_of}
use Rattle.rm_model.specs.declared.parts.Cover.{Cover}
use Rattle.rm_model.specs.declared.parts.Model.{Model}
use Rattle.window_cut.specs.Inner.Levels.{IsLevelled}

present : (r : Option ℕ) → is_none r ≡ false → (n : ℕ) × (r ≡ Some n)
present None e = absurd cc
present (Some n) e = (n, refl)

told_at : (rs : List (Option ℕ)) (k : ℕ) → AllByRecursion (λ r. is_none r ≡ false) rs → k < length rs → (n : ℕ) × (rank_at rs k ≡ Some n)
told_at [] k all lt = absurd (omega arith)
told_at (r ∷ rs) zero all lt = present r all.0
told_at (r ∷ rs) (suc k) all lt = told_at rs k all.1 (omega arith)

abbrev pub level_of : Model → ℕ → ℕ
level_of m k = unwrap_or (rank_at (ranks_of m) k) 0

module _ (m : Model) (none : first_without_rank m ≡ None) (count : length (ranks_of m) ≡ length m.covers) where
  told : (k : ℕ) (c : Cover) → slice_get m.covers k ≡ Some c → (n : ℕ) × (rank_at (ranks_of m) k ≡ Some n)
  told k c at = let lt : k < length m.covers = slice_get_within m.covers k c at in told_at (ranks_of m) k (none_found is_none (ranks_of m) none) (omega (arith, count))

  pub levelled_of : ((k n : ℕ) → rank_at (ranks_of m) k ≡ Some n → n < length m.covers)
      → ((c : Cover) (x : Word) (k p j n : ℕ) → slice_get m.covers k ≡ Some c → slice_get c.inputs p ≡ Some x → cover_of m.covers x ≡ Some j → rank_at (ranks_of m) k ≡ Some n → (i : ℕ) × ((rank_at (ranks_of m) j ≡ Some i) × (i < n)))
      → IsLevelled m (level_of m)
  levelled_of small lower = record {
    small = λ k c at. let r = told k c at in subst (λ (n : ℕ). n < length m.covers) (sym (ap (λ (o : Option ℕ). unwrap_or o 0) r.1)) (small k r.0 r.1);
    lower = λ k j c x at read driven.
        let r = told k c at in
        let p = place_of_member c.inputs x read in
        let l = lower c x k p.0 j r.0 at p.1 driven r.1 in
        let left : level_of m j ≡ l.0 = ap (λ (o : Option ℕ). unwrap_or o 0) l.1.0 in
        let right : level_of m k ≡ r.0 = ap (λ (o : Option ℕ). unwrap_or o 0) r.1 in
        omega (arith, left, right, l.1.1);
  }
