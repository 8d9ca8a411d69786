-- The ranks of a model's covers are the one list in which each rank follows from the others.
use Rattle.std.proofs.Common.{◌≡◌, ℕ, zero, suc, ◌<◌, ◌≤◌, List, [], ◌∷◌, map, length, max, replicate, Option, Some, None, ◌⊎◌, inl, inr, refl, sym, ap, ◌∙◌, arith, zero-le}
use Rattle.std.proofs.lemmas.List.{length-replicate}
use Rattle.std.specs.Prelude.{slice_get}
use Rattle.std.specs.Option.{option_map}
use Rattle.rm_model.specs.Ranks.{cover_of, higher, highest, rank_at, rank_above, rank_by, ranks_below, ranks_of, AreRanks}
use Rattle.rm_model.specs.declared.parts.Cover.{Cover}
use Rattle.rm_model.specs.declared.parts.Model.{Model}
use Rattle.rm_base.specs.Words.{Word}

-- whatever the first list tells the second tells too
abbrev pub Below : List (Option ℕ) → List (Option ℕ) → Type 0
Below r s = (k n : ℕ) → rank_at r k ≡ Some n → rank_at s k ≡ Some n

-- a list's item, or None past its end, under a function
abbrev pub picked : {A : Type 0} → (A → Option ℕ) → Option A → Option ℕ
picked f None = None
picked f (Some c) = f c

pub at_map : {A : Type 0} (f : A → Option ℕ) (cs : List A) (k : ℕ) → rank_at (map f cs) k ≡ picked f (slice_get cs k)
at_map f [] k = refl
at_map f (c ∷ cs) zero = refl
at_map f (c ∷ cs) (suc k) = at_map f cs k

pub at_replicate : (n k : ℕ) → rank_at (replicate n None) k ≡ None
at_replicate zero k = refl
at_replicate (suc n) zero = refl
at_replicate (suc n) (suc k) = at_replicate n k

pub length_map : {A : Type 0} (f : A → Option ℕ) (cs : List A) → length (map f cs) ≡ length cs
length_map f [] = refl
length_map f (c ∷ cs) = ap suc (length_map f cs)

-- the two parts of a rank of several inputs
pub record Parts (a b : Option ℕ) (n : ℕ) : Type 0 where
  pub first : ℕ
  pub second : ℕ
  pub is_first : a ≡ Some first
  pub is_second : b ≡ Some second
  pub is_max : max first second ≡ n

pub parts_of : (a b : Option ℕ) (n : ℕ) → higher a b ≡ Some n → Parts a b n
parts_of None b n e = absurd cc
parts_of (Some i) None n e = absurd cc
parts_of (Some i) (Some j) n e = record { first = i; second = j; is_first = refl; is_second = refl; is_max = cc }

pub higher_parts : (a b : Option ℕ) (n : ℕ) → Parts a b n → higher a b ≡ Some n
higher_parts a b n p = rw (p.is_first, p.is_second, p.is_max) refl

-- a reader's least rank is 0, or one more than a rank
pub above_cases : (r : List (Option ℕ)) (o : Option ℕ) (n : ℕ) → rank_above r o ≡ Some n → ((o ≡ None) × (n ≡ 0)) ⊎ ((k : ℕ) × ((j : ℕ) × ((o ≡ Some k) × (rank_at r k ≡ Some j) × (n ≡ suc j))))
above_cases r None n e = inl (refl, cc)
above_cases r (Some k) n e = go (rank_at r k) refl e
  where
    go : (a : Option ℕ) → rank_at r k ≡ a → option_map (λ n. suc n) a ≡ Some n → ((Some k ≡ None) × (n ≡ 0)) ⊎ ((i : ℕ) × ((j : ℕ) × ((Some k ≡ Some i) × (rank_at r i ≡ Some j) × (n ≡ suc j))))
    go None is e = absurd cc
    go (Some j) is e = inr (k, (j, (refl, is, cc)))

pub above_source : (r : List (Option ℕ)) (o : Option ℕ) → o ≡ None → rank_above r o ≡ Some 0
above_source r o e = rw e refl

pub above_cover : (r : List (Option ℕ)) (o : Option ℕ) (k j : ℕ) → o ≡ Some k → rank_at r k ≡ Some j → rank_above r o ≡ Some (suc j)
above_cover r o k j e f = rw (e, f) refl

pub same_option : (a b : Option ℕ) → ((n : ℕ) → a ≡ Some n → b ≡ Some n) → ((n : ℕ) → b ≡ Some n → a ≡ Some n) → a ≡ b
same_option None None h g = refl
same_option None (Some n) h g = g n refl
same_option (Some n) b h g = sym (h n refl)

pub same_list : (r s : List (Option ℕ)) → length r ≡ length s → ((k : ℕ) → rank_at r k ≡ rank_at s k) → r ≡ s
same_list [] [] e h = refl
same_list [] (b ∷ s) e h = absurd (omega (arith, e))
same_list (a ∷ r) [] e h = absurd (omega (arith, e))
same_list (a ∷ r) (b ∷ s) e h = let here : a ≡ b = h 0 in let rest : r ≡ s = same_list r s (omega (arith, e)) (λ k. h (suc k)) in rw (here, rest) refl

module _ (covers : List Cover) where
  abbrev pub rank_from : List (Option ℕ) → List Word → Option ℕ
  rank_from r xs = highest (map (λ x. rank_above r (cover_of covers x)) xs)

  -- only smaller ranks decide a rank
  pub rank_from-more : (r s : List (Option ℕ)) (xs : List Word) (n : ℕ) → ((k i : ℕ) → i < n → rank_at r k ≡ Some i → rank_at s k ≡ Some i) → rank_from r xs ≡ Some n → rank_from s xs ≡ Some n
  rank_from-more r s [] n below e = e
  rank_from-more r s (x ∷ xs) n below e =
      let p = parts_of (rank_above r (cover_of covers x)) (rank_from r xs) n e in
      let second : p.second ≤ n = omega (arith, p.is_max) in
      let first : rank_above s (cover_of covers x) ≡ Some p.first = elim (above_cases r (cover_of covers x) p.first p.is_first) [
        | inl h ↦ above_source s (cover_of covers x) h.0 ∙ ap Some (sym h.1)
        | inr h ↦ above_cover s (cover_of covers x) h.0 h.1.0 h.1.1.0 (below h.0 h.1.0 (omega (arith, p.is_max, h.1.1.2)) h.1.1.1) ∙ ap Some (sym h.1.1.2)
      ] in
      let rest = rank_from-more r s xs p.second (λ k i h. below k i (omega (arith, second))) p.is_second in
      higher_parts (rank_above s (cover_of covers x)) (rank_from s xs) n (record { first = p.first; second = p.second; is_first = first; is_second = rest; is_max = p.is_max })

  -- ranks below n give ranks up to n
  pub rank_from-bound : (r : List (Option ℕ)) (xs : List Word) (n i : ℕ) → ((k j : ℕ) → rank_at r k ≡ Some j → j < n) → rank_from r xs ≡ Some i → i ≤ n
  rank_from-bound r [] n i small e = let is : i ≡ 0 = cc in omega (arith, is)
  rank_from-bound r (x ∷ xs) n i small e =
      let p = parts_of (rank_above r (cover_of covers x)) (rank_from r xs) i e in
      let rest = rank_from-bound r xs n p.second small p.is_second in
      let first : p.first ≤ n = elim (above_cases r (cover_of covers x) p.first p.is_first) [
        | inl h ↦ omega (arith, h.1)
        | inr h ↦ omega (arith, h.1.1.2, small h.0 h.1.0 h.1.1.1)
      ] in
      omega (arith, p.is_max, first, rest)

module _ (m : Model) where
  pub at_next : (r : List (Option ℕ)) (k : ℕ) → rank_at (map (rank_by m r) m.covers) k ≡ picked (rank_by m r) (slice_get m.covers k)
  at_next r k = at_map (rank_by m r) m.covers k

  next-more : (r s : List (Option ℕ)) → Below r s → Below (map (rank_by m r) m.covers) (map (rank_by m s) m.covers)
  next-more r s below k n e = at_next s k ∙ go (slice_get m.covers k) (sym (at_next r k) ∙ e)
    where
      go : (o : Option Cover) → picked (rank_by m r) o ≡ Some n → picked (rank_by m s) o ≡ Some n
      go None e = absurd cc
      go (Some c) e = rank_from-more m.covers r s c.inputs n (λ k i h. below k i) e

  next-bound : (r : List (Option ℕ)) (n : ℕ) → ((k j : ℕ) → rank_at r k ≡ Some j → j < n) → (k j : ℕ) → rank_at (map (rank_by m r) m.covers) k ≡ Some j → j < suc n
  next-bound r n small k j e = go (slice_get m.covers k) (sym (at_next r k) ∙ e)
    where
      go : (o : Option Cover) → picked (rank_by m r) o ≡ Some j → j < suc n
      go None e = absurd cc
      go (Some c) e = let h = rank_from-bound m.covers r c.inputs n j small e in omega (arith, h)

  pub rounds_grow : (n : ℕ) → Below (ranks_below n m) (ranks_below (suc n) m)
  rounds_grow zero k n e = absurd (let no_rank = at_replicate (length m.covers) k in cc)
  rounds_grow (suc n) k i e = next-more (ranks_below n m) (ranks_below (suc n) m) (rounds_grow n) k i e

  pub rounds_bound : (n : ℕ) (k j : ℕ) → rank_at (ranks_below n m) k ≡ Some j → j < n
  rounds_bound zero k j e = absurd (let no_rank = at_replicate (length m.covers) k in cc)
  rounds_bound (suc n) k j e = next-bound (ranks_below n m) n (rounds_bound n) k j e

-- how many ranks are there
abbrev pub told : List (Option ℕ) → ℕ
told [] = 0
told (None ∷ r) = told r
told (Some n ∷ r) = suc (told r)

pub told-length : (r : List (Option ℕ)) → told r ≤ length r
told-length [] = zero-le
told-length (None ∷ r) = omega (arith, told-length r)
told-length (Some n ∷ r) = omega (arith, told-length r)

-- a list that tells more is the same or tells one more
pub same_or_more : (r s : List (Option ℕ)) → length r ≡ length s → Below r s → (r ≡ s) ⊎ (suc (told r) ≤ told s)
same_or_more [] [] e below = inl refl
same_or_more [] (b ∷ s) e below = absurd (omega (arith, e))
same_or_more (a ∷ r) [] e below = absurd (omega (arith, e))
same_or_more (a ∷ r) (b ∷ s) e below = go a b (below 0) (same_or_more r s (omega (arith, e)) (λ k. below (suc k)))
  where
    go : (a b : Option ℕ) → ((n : ℕ) → a ≡ Some n → b ≡ Some n) → (r ≡ s) ⊎ (suc (told r) ≤ told s) → (a ∷ r ≡ b ∷ s) ⊎ (suc (told (a ∷ r)) ≤ told (b ∷ s))
    go None None here (inl e) = inl (ap (λ (l : List (Option ℕ)). None ∷ l) e)
    go None None here (inr h) = inr h
    go None (Some n) here (inl e) = inr (omega (arith, ap told e))
    go None (Some n) here (inr h) = inr (omega (arith, h))
    go (Some n) b here rest = let is : b ≡ Some n = here n refl in known n b is rest
      where
        known : (n : ℕ) (b : Option ℕ) → b ≡ Some n → (r ≡ s) ⊎ (suc (told r) ≤ told s) → (Some n ∷ r ≡ b ∷ s) ⊎ (suc (told (Some n ∷ r)) ≤ told (b ∷ s))
        known n b is (inl e) = inl (rw (is, e) refl)
        known n b is (inr h) = inr (rw is (omega (arith, h)))

module _ (m : Model) where
  rounds_length : (n : ℕ) → length (ranks_below n m) ≡ length m.covers
  rounds_length zero = length-replicate (length m.covers) None
  rounds_length (suc n) = length_map (rank_by m (ranks_below n m)) m.covers

  -- after n rounds nothing more comes, or n ranks are there
  rounds_end : (n : ℕ) → (ranks_below n m ≡ ranks_below (suc n) m) ⊎ (n ≤ told (ranks_below n m))
  rounds_end zero = inr zero-le
  rounds_end (suc n) = elim (rounds_end n) [
    | inl e ↦ inl (ap (λ (r : List (Option ℕ)). map (rank_by m r) m.covers) e)
    | inr h ↦ elim (same_or_more (ranks_below n m) (ranks_below (suc n) m) (rounds_length n ∙ sym (rounds_length (suc n))) (rounds_grow m n)) [
      | inl e ↦ inl (ap (λ (r : List (Option ℕ)). map (rank_by m r) m.covers) e)
      | inr more ↦ inr (omega (arith, h, more))
    ]
  ]

  pub ranks_are_fixed : AreRanks m (ranks_of m)
  ranks_are_fixed = elim (rounds_end (length m.covers)) [
    | inl e ↦ e
    | inr h ↦ elim (same_or_more (ranks_of m) (ranks_below (suc (length m.covers)) m) (rounds_length (length m.covers) ∙ sym (rounds_length (suc (length m.covers)))) (rounds_grow m (length m.covers))) [
      | inl e ↦ e
      | inr more ↦ absurd (omega (arith, h, more, told-length (ranks_below (suc (length m.covers)) m), rounds_length (suc (length m.covers))))
    ]
  ]

  pub ranks-length : length (ranks_of m) ≡ length m.covers
  ranks-length = rounds_length (length m.covers)

  pub ranks_are_small : (k n : ℕ) → rank_at (ranks_of m) k ≡ Some n → n < length m.covers
  ranks_are_small k n e = rounds_bound m (length m.covers) k n e

  same_step : (r s : List (Option ℕ)) → AreRanks m r → AreRanks m s → (k n : ℕ) → ((i j : ℕ) → j < n → rank_at r i ≡ Some j → rank_at s i ≡ Some j) → rank_at r k ≡ Some n → rank_at s k ≡ Some n
  same_step r s are others k n below e =
      (ap (λ (l : List (Option ℕ)). rank_at l k) others ∙ at_next m s k) ∙ go (slice_get m.covers k) ((sym (at_next m r k) ∙ sym (ap (λ (l : List (Option ℕ)). rank_at l k) are)) ∙ e)
    where
      go : (o : Option Cover) → picked (rank_by m r) o ≡ Some n → picked (rank_by m s) o ≡ Some n
      go None e = absurd cc
      go (Some c) e = rank_from-more m.covers r s c.inputs n below e

  -- ranks that follow from each other are told by any other such list
  same_below : (r s : List (Option ℕ)) → AreRanks m r → AreRanks m s → (fuel k n : ℕ) → n < fuel → rank_at r k ≡ Some n → rank_at s k ≡ Some n
  same_below r s are others zero k n lt e = absurd (omega (arith, lt))
  same_below r s are others (suc fuel) k n lt e = same_step r s are others k n (λ i j h. same_below r s are others fuel i j (omega (arith, h, lt))) e

  pub ranks_are_only : (r s : List (Option ℕ)) → AreRanks m r → AreRanks m s → r ≡ s
  ranks_are_only r s are others = same_list r s (ap length are ∙ length_map (rank_by m r) m.covers ∙ sym (ap length others ∙ length_map (rank_by m s) m.covers)) (λ k. same_option (rank_at r k) (rank_at s k) (λ n e. same_below r s are others (suc n) k n (omega arith) e) (λ n e. same_below s r others are (suc n) k n (omega arith) e))
