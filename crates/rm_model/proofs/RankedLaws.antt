-- A model is ranked exactly where each of its covers has a rank.
use Rattle.std.proofs.Common.{◌≡◌, ℕ, zero, suc, ◌<◌, ◌≤◌, List, [], ◌∷◌, length, max, Bool, true, false, cond, Option, Some, None, ◌⊎◌, inl, inr, refl, sym, ap, ◌∙◌, subst, arith, get_or}
use Rattle.std.specs.Prelude.{slice_get, is_none, All, nat_lt, unwrap_or}
use Rattle.std.specs.List.{position_or_len}
use Rattle.std.proofs.lemmas.Bool.{cases_lt, false_from_ne_true}
use Rattle.std.proofs.lemmas.Bool.Decides.{Decides-ltb}
use Rattle.std.proofs.lemmas.Option.{slice_get_cases, slice_get_within}
use Rattle.rm_model.specs.Value.{IsRanked, is_cover_output, source_names, outputs_of}
use Rattle.rm_model.specs.WellFormed.{is_distinct, driven_names}
use Rattle.rm_model.specs.Ranks.{cover_of, rank_at, rank_above, rank_by, ranks_of, first_without_rank, higher}
use Rattle.rm_model.specs.declared.parts.Cover.{Cover}
use Rattle.rm_model.specs.declared.parts.Model.{Model}
use Rattle.rm_model.proofs.RankLaws.{rank_from, picked, at_next, ranks_are_fixed, ranks-length, parts_of, above_cases, above_source, above_cover}
use Rattle.rm_model.proofs.CoverLemmas.{drives-of, some-drives, is-driven, drives-own, distinct-right}
use Rattle.rm_base.proofs.Public.{all_at, all_from_places}
use Rattle.rm_base.specs.Words.{Word}
use Rattle.rm_model.specs.Inner.Search.{HasRank}

higher-some : (a b : Option ℕ) → HasRank a → HasRank b → HasRank (higher a b)
higher-some a b p q = (max p.0 q.0, rw (p.1, q.1) refl)

rank_from-some : (cs : List Cover) (r : List (Option ℕ)) (xs : List Word) → ((p : ℕ) (x : Word) → slice_get xs p ≡ Some x → HasRank (rank_above r (cover_of cs x))) → HasRank (rank_from cs r xs)
rank_from-some cs r [] h = (0, refl)
rank_from-some cs r (x ∷ xs) h = higher-some (rank_above r (cover_of cs x)) (rank_from cs r xs) (h 0 x refl) (rank_from-some cs r xs (λ p. h (suc p)))

-- a cover's rank is greater than those of the covers that it reads
pub reads-lower : (cs : List Cover) (r : List (Option ℕ)) (xs : List Word) (n p j : ℕ) (x : Word) → rank_from cs r xs ≡ Some n → slice_get xs p ≡ Some x → cover_of cs x ≡ Some j → (i : ℕ) × ((rank_at r j ≡ Some i) × (i < n))
reads-lower cs r [] n p j x e at driven = absurd cc
reads-lower cs r (y ∷ xs) n zero j x e at driven =
    let parts = parts_of (rank_above r (cover_of cs y)) (rank_from cs r xs) n e in
    let is : y ≡ x = cc in
    elim (above_cases r (cover_of cs y) parts.first parts.is_first) [
      | inl h ↦ absurd (let none : cover_of cs x ≡ None = subst (λ (z : Word). cover_of cs z ≡ None) is h.0 in cc)
      | inr h ↦
          let some : cover_of cs x ≡ Some h.0 = subst (λ (z : Word). cover_of cs z ≡ Some h.0) is h.1.1.0 in
          let same : h.0 ≡ j = cc in
          (h.1.0, (subst (λ (k : ℕ). rank_at r k ≡ Some h.1.0) same h.1.1.1, omega (arith, parts.is_max, h.1.1.2)))
    ]
reads-lower cs r (y ∷ xs) n (suc p) j x e at driven =
    let parts = parts_of (rank_above r (cover_of cs y)) (rank_from cs r xs) n e in
    let rest : (i : ℕ) × ((rank_at r j ≡ Some i) × (i < parts.second)) = reads-lower cs r xs parts.second p j x parts.is_second at driven in
    (rest.0, (rest.1.0, omega (arith, parts.is_max, rest.1.1)))

module _ (m : Model) where
  pub rank-here : (k : ℕ) (c : Cover) → slice_get m.covers k ≡ Some c → rank_at (ranks_of m) k ≡ rank_by m (ranks_of m) c
  rank-here k c e = (ap (λ (l : List (Option ℕ)). rank_at l k) (ranks_are_fixed m) ∙ at_next m (ranks_of m) k) ∙ ap (picked (rank_by m (ranks_of m))) e

  ranked-some : (ranked : IsRanked m) (fuel k : ℕ) (c : Cover) → slice_get m.covers k ≡ Some c → ranked.0 c.output < fuel → HasRank (rank_at (ranks_of m) k)
  ranked-some ranked zero k c e lt = absurd (omega (arith, lt))
  ranked-some ranked (suc fuel) k c e lt = ranked-step ranked fuel k c e lt (ranked-some ranked fuel)
    where
      ranked-step : (ranked : IsRanked m) (fuel k : ℕ) (c : Cover) → slice_get m.covers k ≡ Some c → ranked.0 c.output < suc fuel → ((k : ℕ) (c : Cover) → slice_get m.covers k ≡ Some c → ranked.0 c.output < fuel → HasRank (rank_at (ranks_of m) k)) → HasRank (rank_at (ranks_of m) k)
      ranked-step ranked fuel k c e lt ih = subst HasRank (sym (rank-here k c e)) (rank_from-some m.covers (ranks_of m) c.inputs (λ p x at. by x p at (cover_of m.covers x) refl))
        where
          by : (x : Word) (p : ℕ) → slice_get c.inputs p ≡ Some x → (o : Option ℕ) → cover_of m.covers x ≡ o → HasRank (rank_above (ranks_of m) (cover_of m.covers x))
          by x p at None is = (0, above_source (ranks_of m) (cover_of m.covers x) is)
          by x p at (Some j) is =
              let d = drives-of m.covers x j is in
              let reads = all_at (λ (c : Cover). All (λ x. is_cover_output m x ≡ true → ranked.0 x < ranked.0 c.output) c.inputs) m.covers k c ranked.1 e in
              let less : ranked.0 x < ranked.0 c.output = all_at (λ (x : Word). is_cover_output m x ≡ true → ranked.0 x < ranked.0 c.output) c.inputs p x reads at (is-driven m.covers x j is) in
              let below : ranked.0 d.cover.output < fuel = omega (arith, less, lt, ap ranked.0 d.drives) in
              let h = ih j d.cover d.there below in
              (suc h.0, above_cover (ranks_of m) (cover_of m.covers x) j h.0 is h.1)

-- no rank is missing
none-missing : (r : List (Option ℕ)) → ((k : ℕ) → k < length r → HasRank (rank_at r k)) → position_or_len is_none r ≡ length r
none-missing [] h = refl
none-missing (a ∷ r) h = let here = h 0 (omega arith) in let rest = none-missing r (λ k lt. h (suc k) (omega (arith, lt))) in rw here.1 (omega (arith, rest))

not_below : (n : ℕ) → nat_lt n n ≡ false
not_below n = false_from_ne_true (nat_lt n n) (λ e. absurd (let lt : n < n = (Decides-ltb n n).0 e in omega (arith, lt)))

all-told : (r : List (Option ℕ)) → length r ≤ position_or_len is_none r → (k : ℕ) → k < length r → HasRank (rank_at r k)
all-told [] h k lt = absurd (omega (arith, lt))
all-told (None ∷ r) h k lt = absurd (omega (arith, h))
all-told (Some n ∷ r) h zero lt = (n, refl)
all-told (Some n ∷ r) h (suc k) lt = all-told r (omega (arith, h)) k (omega (arith, lt))

pub position-none : (n k : ℕ) → cond (nat_lt n k) (Some n) None ≡ None → k ≤ n
position-none n k e = go (nat_lt n k) refl e
  where
    go : (b : Bool) → nat_lt n k ≡ b → cond b (Some n) None ≡ None → k ≤ n
    go true is e = absurd cc
    go false is e = not_lt (λ lt. absurd (let yes : nat_lt n k ≡ true = (Decides-ltb n k).1 lt in cc))
      where
        not_lt : (n < k → ⊥) → k ≤ n
        not_lt h = elim (cases_lt n k) [ inl lt ↦ absurd (h lt) | inr le ↦ le ]

abbrev pub rank_by_place : List (Option ℕ) → Option ℕ → Option ℕ
rank_by_place r None = None
rank_by_place r (Some k) = rank_at r k

-- a name's rank: that of the cover that drives it
abbrev pub name_rank : Model → Word → ℕ
name_rank m x = unwrap_or (rank_by_place (ranks_of m) (cover_of m.covers x)) 0

module _ (m : Model) where
  pub ranked-none : IsRanked m → first_without_rank m ≡ None
  ranked-none ranked = let all = none-missing (ranks_of m) (λ k lt.
      let within : k < length m.covers = omega (arith, lt, ranks-length m) in
      place k within (slice_get_cases m.covers k).1) in rw (all, not_below (length (ranks_of m))) refl
    where
      place : (k : ℕ) → k < length m.covers → ((c : Cover) × (k < length m.covers) × (slice_get m.covers k ≡ Some c) × (get_or m.covers k c ≡ c)) ⊎ ((length m.covers ≤ k) × (slice_get m.covers k ≡ None)) → HasRank (rank_at (ranks_of m) k)
      place k lt (inl h) = ranked-some m ranked (suc (ranked.0 h.0.output)) k h.0 h.2 (omega arith)
      place k lt (inr h) = absurd (omega (arith, lt, h.0))

  pub none-some : first_without_rank m ≡ None → (k : ℕ) → k < length m.covers → HasRank (rank_at (ranks_of m) k)
  none-some none k lt = all-told (ranks_of m) (position-none (position_or_len is_none (ranks_of m)) (length (ranks_of m)) none) k (omega (arith, lt, ranks-length m))

  name_rank-at : (x : Word) (k n : ℕ) → cover_of m.covers x ≡ Some k → rank_at (ranks_of m) k ≡ Some n → name_rank m x ≡ n
  name_rank-at x k n driven is = rw (driven, is) refl

  pub none-ranked : is_distinct (driven_names m) ≡ true → first_without_rank m ≡ None → IsRanked m
  none-ranked once none = (name_rank m, all_from_places (λ (c : Cover). All (λ x. is_cover_output m x ≡ true → name_rank m x < name_rank m c.output) c.inputs) m.covers (λ k c there. all_from_places (λ (x : Word). is_cover_output m x ≡ true → name_rank m x < name_rank m c.output) c.inputs (λ p x at driven. by k c there p x at (some-drives m.covers x driven))))
    where
      by : (k : ℕ) (c : Cover) → slice_get m.covers k ≡ Some c → (p : ℕ) (x : Word) → slice_get c.inputs p ≡ Some x → (j : ℕ) × (cover_of m.covers x ≡ Some j) → name_rank m x < name_rank m c.output
      by k c there p x at driver =
          let own : cover_of m.covers c.output ≡ Some k = drives-own m.covers k c (distinct-right (source_names m) (outputs_of m.covers) once) there in
          let h : HasRank (rank_at (ranks_of m) k) = none-some none k (slice_get_within m.covers k c there) in
          let full : rank_from m.covers (ranks_of m) c.inputs ≡ Some h.0 = sym (rank-here m k c there) ∙ h.1 in
          let less : (i : ℕ) × ((rank_at (ranks_of m) driver.0 ≡ Some i) × (i < h.0)) = reads-lower m.covers (ranks_of m) c.inputs h.0 p driver.0 x full at driver.1 in
          let left : name_rank m x ≡ less.0 = name_rank-at x driver.0 less.0 driver.1 less.1.0 in
          let right : name_rank m c.output ≡ h.0 = name_rank-at c.output k h.0 own h.1 in
          omega (arith, left, right, less.1.1)

  pub ranks-lower : (c : Cover) (x : Word) (k p j n : ℕ) → slice_get m.covers k ≡ Some c → slice_get c.inputs p ≡ Some x → cover_of m.covers x ≡ Some j → rank_at (ranks_of m) k ≡ Some n → (i : ℕ) × ((rank_at (ranks_of m) j ≡ Some i) × (i < n))
  ranks-lower c x k p j n there at driven is = reads-lower m.covers (ranks_of m) c.inputs n p j x (sym (rank-here m k c there) ∙ is) at driven
