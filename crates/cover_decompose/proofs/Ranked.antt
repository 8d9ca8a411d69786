-- In a well-formed model with ranks, the needed covers read sources and each other, and give the observed names.
use Rattle.std.proofs.Common.{◌≡◌, ◌<◌, ◌≤◌, ℕ, zero, suc, Bool, true, false, cond, List, [], ◌∷◌, ◌++◌, length, map, refl, sym, ap, subst, ◌∙◌, ◌⊎◌, inl, inr, arith}
use Rattle.std.specs.Prelude.{Some, None, Option, is_none, max, unwrap_or, slice_get}
use Rattle.std.specs.Option.{option_map}
use Rattle.std.specs.List.{AllByRecursion, zip, flat_map, filter_map}
use Rattle.rm_model.specs.Words.{is_word}
use Rattle.rm_model.specs.Value.{is_among, source_names, observed_names, control_of}
use Rattle.rm_model.specs.Ranks.{cover_of, higher, highest, rank_at, rank_above, rank_by, ranks_of, AreRanks, first_without_rank}
use Rattle.rm_model.specs.WellFormed.{IsWellFormed, driven_names, used_names}
use Rattle.rm_model.specs.declared.parts.Latch.{Latch}
use Rattle.rm_model.specs.declared.parts.Cover.{Cover}
use Rattle.rm_model.specs.declared.parts.Model.{Model}
use Rattle.cover_decompose.specs.Needed.{ranked_covers, covers_by_rank, is_needed, needed_of, taken}
use Rattle.cover_decompose.proofs.Members.{in_among, among_in}
use Rattle.cover_decompose.proofs.Order.{ReadsLower, Reading, in-of_ranks, observed_kept, of_ranks-in, onto_keeps, onto_outputs, outputs_onto, reading_needed, reading_ranks}
use Rattle.rm_base.proofs.Public.{all_in, all_pass_in, in_append, in_at, in_left, in_map, in_mapped, in_right, none_found, place_of_member, some_same}
use Rattle.rm_base.specs.Members.{In}
use Rattle.rm_base.specs.Words.{Word}
use Rattle.rm_model.proofs.Public.{is_word-same, same_word}

present : (r : Option ℕ) → is_none r ≡ false → (n : ℕ) × (r ≡ Some n)
present None e = absurd cc
present (Some n) e = (n, refl)

-- one of the ranks, which are at most the highest
highest_at_least : (rs : List (Option ℕ)) (r : Option ℕ) (n : ℕ) → In rs r → highest rs ≡ Some n → (k : ℕ) × ((r ≡ Some k) × (k ≤ n))
highest_at_least [] r n h e = absurd h
highest_at_least (None ∷ rs) r n h e = absurd cc
highest_at_least (Some i ∷ rs) r n h e = by_rest (highest rs) (highest_at_least rs r) h e
  where
    by_rest : (o : Option ℕ) → ((n : ℕ) → In rs r → o ≡ Some n → (k : ℕ) × ((r ≡ Some k) × (k ≤ n))) → (Some i ≡ r) ⊎ In rs r → higher (Some i) o ≡ Some n → (k : ℕ) × ((r ≡ Some k) × (k ≤ n))
    by_rest None next h e = absurd cc
    by_rest (Some j) next (inl same) e = let is : max i j ≡ n = some_same e in (i, (sym same, omega arith))
    by_rest (Some j) next (inr m) e = let is : max i j ≡ n = some_same e in let rest = next j m refl in (rest.0, (rest.1.0, let le : rest.0 ≤ j = rest.1.1 in omega arith))

cover_of-is : (cs : List Cover) (x : Word) (k : ℕ) → cover_of cs x ≡ Some k → (d : Cover) × ((slice_get cs k ≡ Some d) × (d.output ≡ x))
cover_of-is [] x k e = absurd cc
cover_of-is (c ∷ cs) x k e = by_test (is_word x c.output) refl (cover_of cs x) (cover_of-is cs x) e
  where
    by_test : (b : Bool) → is_word x c.output ≡ b → (o : Option ℕ) → ((k : ℕ) → o ≡ Some k → (d : Cover) × ((slice_get cs k ≡ Some d) × (d.output ≡ x))) → cond b (Some 0) (option_map (λ k. suc k) o) ≡ Some k → (d : Cover) × ((slice_get (c ∷ cs) k ≡ Some d) × (d.output ≡ x))
    by_test true same o next e = let is : 0 ≡ k = some_same e in rw (← is) (c, (refl, sym (same_word x c.output same)))
    by_test false same None next e = absurd cc
    by_test false same (Some j) next e = let is : suc j ≡ k = some_same e in let r = next j refl in rw (← is) (r.0, (r.1.0, r.1.1))

is_cover : (cs : List Cover) (d : Cover) → In cs d → (k : ℕ) × (cover_of cs d.output ≡ Some k)
is_cover [] d h = absurd h
is_cover (c ∷ cs) d h = by_test (is_word d.output c.output) refl (is_cover cs d) h
  where
    by_test : (b : Bool) → is_word d.output c.output ≡ b → (In cs d → (k : ℕ) × (cover_of cs d.output ≡ Some k)) → (c ≡ d) ⊎ In cs d → (k : ℕ) × (cond b (Some 0) (option_map (λ k. suc k) (cover_of cs d.output)) ≡ Some k)
    by_test true same next h = (0, refl)
    by_test false same next (inl e) =
        let here : is_word d.output c.output ≡ true = ap (λ (y : Cover). is_word d.output y.output) e ∙ is_word-same d.output in
        let bad : true ≡ false = sym here ∙ same in absurd cc
    by_test false same next (inr m) = let r = next m in (suc r.0, ap (λ (o : Option ℕ). option_map (λ k. suc k) o) r.1)

rank_at-map : (f : Cover → Option ℕ) (cs : List Cover) (k : ℕ) (d : Cover) → slice_get cs k ≡ Some d → rank_at (map f cs) k ≡ f d
rank_at-map f [] k d e = absurd cc
rank_at-map f (c ∷ cs) zero d e = let is : c ≡ d = cc in ap f is
rank_at-map f (c ∷ cs) (suc k) d e = rank_at-map f cs k d e

module _ (f : Cover → Option ℕ) where
  abbrev pub pairs : List Cover → List (ℕ × Cover)
  pairs cs = zip (map (λ r. unwrap_or r 0) (map f cs)) cs

  pairs_in : (cs : List Cover) → AllByRecursion (λ r. is_none r ≡ false) (map f cs) → (n : ℕ) (c : Cover) → In (pairs cs) (n, c) → In cs c × (f c ≡ Some n)
  pairs_in [] all n c h = absurd h
  pairs_in (d ∷ cs) all n c (inl e) =
      let there = present (f d) all.0 in
      let same : d ≡ c = ap (λ (p : ℕ × Cover). p.1) e in
      let rank : unwrap_or (f d) 0 ≡ n = ap (λ (p : ℕ × Cover). p.0) e in
      let number : there.0 ≡ n = sym (ap (λ (o : Option ℕ). unwrap_or o 0) there.1) ∙ rank in
      (inl same, ap f (sym same) ∙ (there.1 ∙ ap (λ (k : ℕ). Some k) number))
  pairs_in (d ∷ cs) all n c (inr h) = let r = pairs_in cs all.1 n c h in (inr r.0, r.1)

  in_pairs : (cs : List Cover) (n : ℕ) (c : Cover) → In cs c → f c ≡ Some n → In (pairs cs) (n, c)
  in_pairs [] n c h e = absurd h
  in_pairs (d ∷ cs) n c (inl same) e =
      let rank : unwrap_or (f d) 0 ≡ n = ap (λ (y : Cover). unwrap_or (f y) 0) same ∙ ap (λ (o : Option ℕ). unwrap_or o 0) e in
      inl (rw (rank, same) refl)
  in_pairs (d ∷ cs) n c (inr h) e = inr (in_pairs cs n c h e)

needed_in : (observed : List Word) (cs : List Cover) (c : Cover) → In (needed_of observed cs) c → In cs c
needed_in observed [] c h = absurd h
needed_in observed (d ∷ cs) c h = by_need (is_needed observed (needed_of observed cs) d.output) (needed_in observed cs c) h
  where
    by_need : (b : Bool) → (In (needed_of observed cs) c → In cs c) → In (cond b (d ∷ needed_of observed cs) (needed_of observed cs)) c → (d ≡ c) ⊎ In cs c
    by_need true next (inl e) = inl e
    by_need true next (inr h) = inr (next h)
    by_need false next h = inr (next h)

pub in_flat : (cs : List Cover) (c : Cover) (x : Word) → In cs c → In c.inputs x → In (flat_map (λ (d : Cover). d.inputs) cs) x
in_flat [] c x h m = absurd h
in_flat (d ∷ cs) c x (inl e) m = in_left d.inputs (flat_map (λ (d : Cover). d.inputs) cs) x (let P : Cover → Type 0 = λ y. In y.inputs x in subst P (sym e) m)
in_flat (d ∷ cs) c x (inr h) m = in_right d.inputs (flat_map (λ (d : Cover). d.inputs) cs) x (in_flat cs c x h m)

pub observed_is_used : (m : Model) (x : Word) → In (observed_names m) x → In (used_names m) x
observed_is_used m x i =
    let outputs = m.outputs in
    let inputs : List Word = flat_map (λ (c : Cover). c.inputs) m.covers in
    let latch : List Word = map (λ (l : Latch). l.input) m.latches in
    let controls : List Word = filter_map control_of m.latches in
    elim (in_append (m.outputs ++ latch) controls x i) [
      | inl p ↦ in_left ((m.outputs ++ inputs) ++ latch) controls x
          (elim (in_append m.outputs latch x p) [
            | inl o ↦ in_left (m.outputs ++ inputs) latch x (in_left m.outputs inputs x o)
            | inr l ↦ in_right (m.outputs ++ inputs) latch x l
          ])
      | inr c ↦ in_right ((m.outputs ++ inputs) ++ latch) controls x c
    ]

pub record IsRankable (m : Model) : Type 0 where
  pub formed : IsWellFormed m
  pub all : first_without_rank m ≡ None
  pub follow : AreRanks m (ranks_of m)
  pub small : (k n : ℕ) → rank_at (ranks_of m) k ≡ Some n → n < length m.covers

module _ (m : Model) (h : IsRankable m) where
  used_driven : (x : Word) → In (used_names m) x → In (source_names m) x ⊎ In (map (λ (c : Cover). c.output) m.covers) x
  used_driven x u = in_append (source_names m) (map (λ (c : Cover). c.output) m.covers) x (in_among (driven_names m) x (all_pass_in (is_among (driven_names m)) (used_names m) x h.formed.all_driven u))

  rank_f : Cover → Option ℕ
  rank_f = rank_by m (ranks_of m)

  none_missing : AllByRecursion (λ r. is_none r ≡ false) (map (rank_by m (ranks_of m)) m.covers)
  none_missing = let P : List (Option ℕ) → Type 0 = λ rs. AllByRecursion (λ r. is_none r ≡ false) rs in subst P h.follow (none_found is_none (ranks_of m) h.all)

  ranked_is : ranked_covers m ≡ pairs (rank_by m (ranks_of m)) m.covers
  ranked_is = ap (λ (rs : List (Option ℕ)). zip (map (λ r. unwrap_or r 0) rs) m.covers) h.follow

  in_ranked : (n : ℕ) (c : Cover) → In (ranked_covers m) (n, c) → In m.covers c × (rank_by m (ranks_of m) c ≡ Some n)
  in_ranked n c i = pairs_in (rank_by m (ranks_of m)) m.covers none_missing n c (let P : List (ℕ × Cover) → Type 0 = λ ps. In ps (n, c) in subst P ranked_is i)

  is_ranked : (n : ℕ) (c : Cover) → In m.covers c → rank_by m (ranks_of m) c ≡ Some n → In (ranked_covers m) (n, c)
  is_ranked n c i e = let P : List (ℕ × Cover) → Type 0 = λ ps. In ps (n, c) in subst P (sym ranked_is) (in_pairs (rank_by m (ranks_of m)) m.covers n c i e)

  rank_there : (k : ℕ) (d : Cover) → slice_get m.covers k ≡ Some d → rank_at (ranks_of m) k ≡ rank_by m (ranks_of m) d
  rank_there k d e = ap (λ (rs : List (Option ℕ)). rank_at rs k) h.follow ∙ rank_at-map (rank_by m (ranks_of m)) m.covers k d e

  -- the cover that gives an input has a lower rank
  reads_lower : ReadsLower (source_names m) (ranked_covers m)
  reads_lower n c i x r =
      let here = in_ranked n c i in
      let used : In (used_names m) x = in_left ((m.outputs ++ flat_map (λ (c : Cover). c.inputs) m.covers) ++ map (λ (l : Latch). l.input) m.latches) (filter_map control_of m.latches) x
      (in_left (m.outputs ++ flat_map (λ (c : Cover). c.inputs) m.covers) (map (λ (l : Latch). l.input) m.latches) x (in_right m.outputs (flat_map (λ (c : Cover). c.inputs) m.covers) x (in_flat m.covers c x here.0 r))) in
      elim (used_driven x used) [
        | inl s ↦ inl (among_in (source_names m) x s)
        | inr o ↦ inr (by_cover n c x r here.1 (in_map (λ (c : Cover). c.output) m.covers x o))
      ]
    where
      by_cover : (n : ℕ) (c : Cover) (x : Word) → In c.inputs x → rank_by m (ranks_of m) c ≡ Some n → (d : Cover) × (In m.covers d × (d.output ≡ x)) → (k : ℕ) × ((d : Cover) × (In (ranked_covers m) (k, d) × ((k < n) × (d.output ≡ x))))
      by_cover n c x r e o =
          let first = is_cover m.covers o.0 o.1.0 in
          let at : cover_of m.covers x ≡ Some first.0 = ap (λ (y : Word). cover_of m.covers y) (sym o.1.1) ∙ first.1 in
          let d = cover_of-is m.covers x first.0 at in
          let bound = highest_at_least (map (λ x. rank_above (ranks_of m) (cover_of m.covers x)) c.inputs) (rank_above (ranks_of m) (cover_of m.covers x)) n (in_mapped (λ x. rank_above (ranks_of m) (cover_of m.covers x)) c.inputs x r) e in
          let above : option_map (λ n. suc n) (rank_at (ranks_of m) first.0) ≡ Some bound.0 = sym (ap (λ (o : Option ℕ). rank_above (ranks_of m) o) at) ∙ bound.1.0 in
          let rank = less (rank_at (ranks_of m) first.0) bound.0 above in
          (rank.0, (d.0, (is_ranked rank.0 d.0 (in_at m.covers first.0 d.0 d.1.0) (sym (rank_there first.0 d.0 d.1.0) ∙ rank.1.0), ((let le : bound.0 ≤ n = bound.1.1 in let is : suc rank.0 ≡ bound.0 = rank.1.1 in omega arith), d.1.1))))
        where
          less : (o : Option ℕ) (b : ℕ) → option_map (λ n. suc n) o ≡ Some b → (j : ℕ) × ((o ≡ Some j) × (suc j ≡ b))
          less None b e = absurd cc
          less (Some j) b e = (j, (refl, some_same e))

  pub covers_reading : Reading (source_names m) (covers_by_rank m)
  covers_reading = reading_ranks (source_names m) (ranked_covers m) 0 (length m.covers) (source_names m) reads_lower (record { sources = λ x e. e; outputs = λ k d i lt. absurd (omega arith) })

  pub taken_reading : Reading (source_names m) (taken m)
  taken_reading = reading_needed (observed_names m) (source_names m) (source_names m) (covers_by_rank m) covers_reading (λ x e n. e)

  pub taken_in : (c : Cover) → In (taken m) c → In m.covers c
  taken_in c i =
      let r = of_ranks-in (ranked_covers m) 0 (length m.covers) c (needed_in (observed_names m) (covers_by_rank m) c i) in
      (in_ranked r.0 c r.1).0

  pub by_rank_in : (c : Cover) → In m.covers c → In (covers_by_rank m) c
  by_rank_in c i =
      let k = place_of_member m.covers c i in
      let there = present (rank_by m (ranks_of m) c) (all_in (λ r. is_none r ≡ false) (map (rank_by m (ranks_of m)) m.covers) (rank_by m (ranks_of m) c) none_missing (in_mapped (rank_by m (ranks_of m)) m.covers c i)) in
      let lt : there.0 < length m.covers = h.small k.0 there.0 (rank_there k.0 c k.1 ∙ there.1) in
      in-of_ranks (ranked_covers m) 0 (length m.covers) there.0 c (is_ranked there.0 c i there.1) (omega arith) (omega arith)

  -- each observed name is a source, or the output of a needed cover
  pub observed_there : (x : Word) → In (observed_names m) x → is_among (outputs_onto (source_names m) (taken m)) x ≡ true
  observed_there x i =
      observed_kept (observed_names m) (source_names m) (source_names m) (covers_by_rank m) (λ y e n. e) x (among_in (observed_names m) x i)
      (elim (used_driven x (observed_is_used m x i)) [
        | inl s ↦ onto_keeps (source_names m) (covers_by_rank m) x (among_in (source_names m) x s)
        | inr o ↦
            let d = in_map (λ (c : Cover). c.output) m.covers x o in
            let P : Word → Type 0 = λ y. is_among (outputs_onto (source_names m) (covers_by_rank m)) y ≡ true in
            subst P d.1.1 (onto_outputs (source_names m) (covers_by_rank m) d.0 (by_rank_in d.0 d.1.0))
      ])
