-- The covers that a decomposition takes are different ones.
use Rattle.std.proofs.Common.{◌≡◌, ◌≤◌, ℕ, zero, suc, Bool, true, false, not, List, [], ◌∷◌, length, map, filter, ◌⊎◌, inl, inr, refl, sym, ap, ◌∙◌, subst, arith, nat_eq}
use Rattle.std.specs.Prelude.{if◌then◌else◌, unwrap_or}
use Rattle.std.specs.List.{zip}
use Rattle.std.proofs.lemmas.Bool.Decides.{eqb_tells}
use Rattle.rm_model.specs.Ranks.{ranks_of}
use Rattle.rm_model.specs.Value.{is_among, observed_names, outputs_of}
use Rattle.rm_model.specs.WellFormed.{is_distinct}
use Rattle.rm_model.specs.declared.parts.Cover.{Cover}
use Rattle.rm_model.specs.declared.parts.Model.{Model}
use Rattle.rm_base.specs.Members.{In}
use Rattle.rm_base.specs.Words.{Word}
use Rattle.rm_base.proofs.Public.{both_and, in_filter, in_map, in_mapped}
use Rattle.cover_decompose.specs.Needed.{covers_by_rank, is_needed, needed_of, of_rank, of_ranks, ranked_covers, taken}
use Rattle.sewing.proofs.Members.{distinct-join, distinct_head, distinct_tail, not_there, outputs-append, outputs-in}

abbrev Ranked : Type 0
Ranked = ℕ × Cover

abbrev output_of : Ranked → Word
output_of p = p.1.output

abbrev has_rank : ℕ → Ranked → Bool
has_rank n p = nat_eq p.0 n

-- of one rank
rank-from : (ps : List Ranked) (n : ℕ) (x : Word) → In (outputs_of (of_rank ps n)) x → (p : Ranked) × (In ps p × ((p.0 ≡ n) × (p.1.output ≡ x)))
rank-from ps n x h =
    let c : (c : Cover) × (In (of_rank ps n) c × (c.output ≡ x)) = in_map (λ (c : Cover). c.output) (of_rank ps n) x h in
    let p : (p : Ranked) × (In (filter (has_rank n) ps) p × (p.1 ≡ c.0)) = in_map (λ (p : Ranked). p.1) (filter (has_rank n) ps) c.0 c.1.0 in
    let r : In ps p.0 × (has_rank n p.0 ≡ true) = in_filter (has_rank n) ps p.0 p.1.0 in
    (p.0, (r.0, (number p.0 r.1, ap (λ (d : Cover). d.output) p.1.1 ∙ c.1.1)))
  where
    number : (p : Ranked) → has_rank n p ≡ true → p.0 ≡ n
    number p e = elim (eqb_tells p.0 n) [ inl t ↦ t.1 | inr f ↦ let bad : true ≡ false = sym e ∙ f.0 in absurd cc ]

rank-once : (ps : List Ranked) (n : ℕ) → is_distinct (map output_of ps) ≡ true → is_distinct (outputs_of (of_rank ps n)) ≡ true
rank-once [] n once = refl
rank-once (p ∷ ps) n once = go (has_rank n p) (rank-once ps n (distinct_tail p.1.output (map output_of ps) once))
  where
    go : (b : Bool) → is_distinct (outputs_of (of_rank ps n)) ≡ true → is_distinct (outputs_of (map (λ (q : Ranked). q.1) (if b then p ∷ filter (has_rank n) ps else filter (has_rank n) ps))) ≡ true
    go true rest = both_and (not (is_among (outputs_of (of_rank ps n)) p.1.output)) (is_distinct (outputs_of (of_rank ps n)))
        (not_there (outputs_of (of_rank ps n)) p.1.output (λ h.
        let r : (q : Ranked) × (In ps q × ((q.0 ≡ n) × (q.1.output ≡ p.1.output))) = rank-from ps n p.1.output h in
        distinct_head p.1.output (map output_of ps) once (subst (λ (x : Word). In (map output_of ps) x) r.1.1.1 (in_mapped output_of ps r.0 r.1.0)))) rest
    go false rest = rest

-- two pairs with one output are one
same-pair : (ps : List Ranked) (p q : Ranked) → is_distinct (map output_of ps) ≡ true → In ps p → In ps q → p.1.output ≡ q.1.output → p.0 ≡ q.0
same-pair [] p q once h k e = absurd h
same-pair (r ∷ ps) p q once (inl a) (inl b) e = ap (λ (s : Ranked). s.0) (sym a ∙ b)
same-pair (r ∷ ps) p q once (inl a) (inr k) e = absurd (distinct_head r.1.output (map output_of ps) once (subst (λ (x : Word). In (map output_of ps) x) (sym e ∙ sym (ap output_of a)) (in_mapped output_of ps q k)))
same-pair (r ∷ ps) p q once (inr h) (inl b) e = absurd (distinct_head r.1.output (map output_of ps) once (subst (λ (x : Word). In (map output_of ps) x) (e ∙ sym (ap output_of b)) (in_mapped output_of ps p h)))
same-pair (r ∷ ps) p q once (inr h) (inr k) e = same-pair ps p q (distinct_tail r.1.output (map output_of ps) once) h k e

-- of several ranks
ranks-from : (ps : List Ranked) (n count : ℕ) (x : Word) → In (outputs_of (of_ranks ps n count)) x → (p : Ranked) × (In ps p × ((n ≤ p.0) × (p.1.output ≡ x)))
ranks-from ps n zero x h = absurd h
ranks-from ps n (suc count) x h = elim (outputs-in (of_rank ps n) (of_ranks ps (suc n) count) x h) [
  | inl a ↦ let r : (p : Ranked) × (In ps p × ((p.0 ≡ n) × (p.1.output ≡ x))) = rank-from ps n x a in (r.0, (r.1.0, (omega (arith, r.1.1.0), r.1.1.1)))
  | inr b ↦ let r : (p : Ranked) × (In ps p × ((suc n ≤ p.0) × (p.1.output ≡ x))) = ranks-from ps (suc n) count x b in (r.0, (r.1.0, (omega (arith, r.1.1.0), r.1.1.1)))
]

ranks-once : (ps : List Ranked) (n count : ℕ) → is_distinct (map output_of ps) ≡ true → is_distinct (outputs_of (of_ranks ps n count)) ≡ true
ranks-once ps n zero once = refl
ranks-once ps n (suc count) once =
    subst (λ (l : List Word). is_distinct l ≡ true) (sym (outputs-append (of_rank ps n) (of_ranks ps (suc n) count)))
    (distinct-join (outputs_of (of_rank ps n)) (outputs_of (of_ranks ps (suc n) count)) (rank-once ps n once) (ranks-once ps (suc n) count once) (λ x a b.
    let p : (p : Ranked) × (In ps p × ((p.0 ≡ n) × (p.1.output ≡ x))) = rank-from ps n x a in
    let q : (q : Ranked) × (In ps q × ((suc n ≤ q.0) × (q.1.output ≡ x))) = ranks-from ps (suc n) count x b in
    let same : p.0.0 ≡ q.0.0 = same-pair ps p.0 q.0 once p.1.0 q.1.0 (p.1.1.1 ∙ sym q.1.1.1) in
    absurd (omega (arith, same, p.1.1.0, q.1.1.0))))

-- pairs of numbers and covers
zip-in : (rs : List ℕ) (cs : List Cover) (x : Word) → In (map output_of (zip rs cs)) x → In (outputs_of cs) x
zip-in [] [] x h = absurd h
zip-in [] (c ∷ cs) x h = absurd h
zip-in (r ∷ rs) [] x h = absurd h
zip-in (r ∷ rs) (c ∷ cs) x (inl e) = inl e
zip-in (r ∷ rs) (c ∷ cs) x (inr h) = inr (zip-in rs cs x h)

zip-once : (rs : List ℕ) (cs : List Cover) → is_distinct (outputs_of cs) ≡ true → is_distinct (map output_of (zip rs cs)) ≡ true
zip-once [] [] once = refl
zip-once [] (c ∷ cs) once = refl
zip-once (r ∷ rs) [] once = refl
zip-once (r ∷ rs) (c ∷ cs) once =
    both_and (not (is_among (map output_of (zip rs cs)) c.output)) (is_distinct (map output_of (zip rs cs)))
    (not_there (map output_of (zip rs cs)) c.output (λ h. distinct_head c.output (outputs_of cs) once (zip-in rs cs c.output h)))
    (zip-once rs cs (distinct_tail c.output (outputs_of cs) once))

-- the needed ones
needed-from : (observed : List Word) (cs : List Cover) (x : Word) → In (outputs_of (needed_of observed cs)) x → In (outputs_of cs) x
needed-from observed [] x h = h
needed-from observed (c ∷ cs) x h = go (is_needed observed (needed_of observed cs) c.output) (needed-from observed cs x) h
  where
    go : (b : Bool) → (In (outputs_of (needed_of observed cs)) x → In (outputs_of cs) x) → In (outputs_of (if b then c ∷ needed_of observed cs else needed_of observed cs)) x → (c.output ≡ x) ⊎ In (outputs_of cs) x
    go true f (inl e) = inl e
    go true f (inr h) = inr (f h)
    go false f h = inr (f h)

needed-once : (observed : List Word) (cs : List Cover) → is_distinct (outputs_of cs) ≡ true → is_distinct (outputs_of (needed_of observed cs)) ≡ true
needed-once observed [] once = refl
needed-once observed (c ∷ cs) once = go (is_needed observed (needed_of observed cs) c.output) (needed-once observed cs (distinct_tail c.output (outputs_of cs) once))
  where
    go : (b : Bool) → is_distinct (outputs_of (needed_of observed cs)) ≡ true → is_distinct (outputs_of (if b then c ∷ needed_of observed cs else needed_of observed cs)) ≡ true
    go true rest = both_and (not (is_among (outputs_of (needed_of observed cs)) c.output)) (is_distinct (outputs_of (needed_of observed cs)))
        (not_there (outputs_of (needed_of observed cs)) c.output (λ h. distinct_head c.output (outputs_of cs) once (needed-from observed cs c.output h))) rest
    go false rest = rest

pub taken-once : (m : Model) → is_distinct (outputs_of m.covers) ≡ true → is_distinct (outputs_of (taken m)) ≡ true
taken-once m once = needed-once (observed_names m) (covers_by_rank m) (ranks-once (ranked_covers m) 0 (length m.covers) (zip-once (map (λ r. unwrap_or r 0) (ranks_of m)) m.covers once))
