-- On which nodes the observed names stand, and which covers are taken.
use Rattle.std.proofs.Common.{◌≡◌, ◌+◌, ℕ, zero, suc, Bool, true, false, cond, not, List, [], ◌∷◌, ◌++◌, length, map, refl, sym, ap, subst, ◌∙◌, ◌⊎◌, inl, inr, arith}
use Rattle.std.specs.Prelude.{Some, None, Option, slice_get, ◌&&◌}
use Rattle.std.specs.Option.{option_map}
use Rattle.std.specs.List.{list_any}
use Rattle.std.proofs.lemmas.Option.{slice_get-map}
use Rattle.std.proofs.lemmas.Bool.{or_cases}
use Rattle.rm_model.specs.Words.{is_word}
use Rattle.rm_model.specs.Value.{is_among, source_names, observed_names}
use Rattle.rm_model.specs.WellFormed.{is_distinct}
use Rattle.rm_model.specs.declared.parts.Cover.{Cover}
use Rattle.rm_model.specs.declared.parts.Literal.{Literal}
use Rattle.rm_model.specs.declared.parts.Literal.TheVariants.{Zero, One, Any}
use Rattle.rm_model.specs.declared.parts.Model.{Model}
use Rattle.gate_net.specs.declared.Kind.{Kind}
use Rattle.gate_net.specs.declared.Kind.TheVariants.{And, Or, Xor}
use Rattle.cover_decompose.specs.Needed.{is_needed, needed_of, taken, IsNeeded, observed, read}
use Rattle.cover_decompose.specs.Decomposition.{State, cover_node, closed, joined, last_state, literals, net_of_model, node_by, source_node, start, term, terms, with_cover, with_covers, with_gate, with_not}
use Rattle.cover_decompose.specs.Parity.{parity_ending}
use Rattle.cover_decompose.specs.StandsFor.{HasPoints}
use Rattle.cover_decompose.proofs.Members.{among_in, in_among}
use Rattle.cover_decompose.proofs.Order.{Reading, outputs_onto}
use Rattle.cover_decompose.proofs.Ranked.{IsRankable, observed_there, taken_in, taken_reading}
use Rattle.rm_base.proofs.Public.{all_in, in_any, in_at, in_contained, in_contains, in_mapped, in_right}
use Rattle.rm_base.specs.Members.{In}
use Rattle.rm_base.specs.Words.{Word}
use Rattle.rm_model.proofs.Public.{distinct-left, distinct-right, is_word-same, same_word}

pub distinct_rest : (x : Word) (xs : List Word) → is_distinct (x ∷ xs) ≡ true → (is_among xs x ≡ false) × (is_distinct xs ≡ true)
distinct_rest x xs e = by_test (is_among xs x) e
  where
    by_test : (b : Bool) → (not b && is_distinct xs) ≡ true → (b ≡ false) × (is_distinct xs ≡ true)
    by_test true e = absurd cc
    by_test false e = (refl, e)

-- a name of one list isn't in the other
distinct_parts : (xs ys : List Word) (x : Word) → is_distinct (xs ++ ys) ≡ true → In xs x → In ys x → ⊥
distinct_parts [] ys x e h k = h
distinct_parts (y ∷ xs) ys x e (inl same) k =
    let d = distinct_rest y (xs ++ ys) e in
    let there : is_among (xs ++ ys) y ≡ true = ap (λ (z : Word). is_among (xs ++ ys) z) same ∙ among_in (xs ++ ys) x (in_right xs ys x k) in
    let bad : true ≡ false = sym there ∙ d.0 in absurd cc
distinct_parts (y ∷ xs) ys x e (inr h) k = distinct_parts xs ys x (distinct_rest y (xs ++ ys) e).1 h k

outputs_differ : (cs : List Cover) (c d : Cover) → is_distinct (map (λ (c : Cover). c.output) cs) ≡ true → In cs c → In cs d → c.output ≡ d.output → c ≡ d
outputs_differ [] c d e h k same = absurd h
outputs_differ (b ∷ cs) c d e (inl h) (inl k) same = sym h ∙ k
outputs_differ (b ∷ cs) c d e (inl h) (inr k) same =
    let r = distinct_rest b.output (map (λ (c : Cover). c.output) cs) e in
    let name : b.output ≡ d.output = ap (λ (y : Cover). y.output) h ∙ same in
    let there : is_among (map (λ (c : Cover). c.output) cs) b.output ≡ true = ap (λ (z : Word). is_among (map (λ (c : Cover). c.output) cs) z) name ∙ among_in (map (λ (c : Cover). c.output) cs) d.output (in_mapped (λ (c : Cover). c.output) cs d k) in
    let bad : true ≡ false = sym there ∙ r.0 in absurd cc
outputs_differ (b ∷ cs) c d e (inr h) (inl k) same =
    let r = distinct_rest b.output (map (λ (c : Cover). c.output) cs) e in
    let name : b.output ≡ c.output = ap (λ (y : Cover). y.output) k ∙ sym same in
    let there : is_among (map (λ (c : Cover). c.output) cs) b.output ≡ true = ap (λ (z : Word). is_among (map (λ (c : Cover). c.output) cs) z) name ∙ among_in (map (λ (c : Cover). c.output) cs) c.output (in_mapped (λ (c : Cover). c.output) cs c h) in
    let bad : true ≡ false = sym there ∙ r.0 in absurd cc
outputs_differ (b ∷ cs) c d e (inr h) (inr k) same = outputs_differ cs c d (distinct_rest b.output (map (λ (c : Cover). c.output) cs) e).1 h k same

onto_cases : (done : List Word) (cs : List Cover) (x : Word) → is_among (outputs_onto done cs) x ≡ true → (is_among done x ≡ true) ⊎ ((d : Cover) × (In cs d × (d.output ≡ x)))
onto_cases done [] x e = inl e
onto_cases done (c ∷ cs) x e =
    elim (onto_cases (c.output ∷ done) cs x e) [
      | inl a ↦ elim (or_cases (is_word x c.output) (is_among done x) a) [ inl same ↦ inr (c, (inl refl, sym (same_word x c.output same))) | inr b ↦ inl b ]
      | inr d ↦ inr (d.0, (inr d.1.0, d.1.1))
    ]

-- what a cover reads is there in the end
reading_there : (done : List Word) (cs : List Cover) (c : Cover) (x : Word) → Reading done cs → In cs c → In c.inputs x → (is_among done x ≡ true) ⊎ ((d : Cover) × (In cs d × (d.output ≡ x)))
reading_there done [] c x r h i = absurd h
reading_there done (b ∷ cs) c x r (inl same) i = inl (all_in (λ y. is_among done y ≡ true) b.inputs x r.0 (let P : Cover → Type 0 = λ y. In y.inputs x in subst P (sym same) i))
reading_there done (b ∷ cs) c x r (inr h) i =
    elim (reading_there (b.output ∷ done) cs c x r.1 h i) [
      | inl a ↦ elim (or_cases (is_word x b.output) (is_among done x) a) [ inl same ↦ inr (b, (inl refl, sym (same_word x b.output same))) | inr k ↦ inl k ]
      | inr d ↦ inr (d.0, (inr d.1.0, d.1.1))
    ]

-- gates leave the nodes of the signals
not_nodes : (s : State) (x : Word) (o : Option ℕ) → (with_not s x o).0.node_of ≡ s.node_of
not_nodes s x None = refl
not_nodes s x (Some n) = refl

literals_nodes : (s : State) (xs : List Word) (ls : List Literal) → (literals s xs ls).0.node_of ≡ s.node_of
literals_nodes s [] [] = refl
literals_nodes s [] (l ∷ ls) = refl
literals_nodes s (x ∷ xs) [] = refl
literals_nodes s (x ∷ xs) (One ∷ ls) = literals_nodes s xs ls
literals_nodes s (x ∷ xs) (Any ∷ ls) = literals_nodes s xs ls
literals_nodes s (x ∷ xs) (Zero ∷ ls) = literals_nodes (with_not s x (s.not_of x)).0 xs ls ∙ not_nodes s x (s.not_of x)

joined_nodes : (kind : Kind) (empty : ℕ) (s : State) (ns : List ℕ) → (joined kind empty s ns).0.node_of ≡ s.node_of
joined_nodes kind empty s [] = refl
joined_nodes kind empty s (n ∷ []) = refl
joined_nodes kind empty s (n ∷ k ∷ ns) = refl

terms_nodes : (s : State) (xs : List Word) (rows : List (List Literal)) → (terms s xs rows).0.node_of ≡ s.node_of
terms_nodes s xs [] = refl
terms_nodes s xs (r ∷ rs) = terms_nodes (term s xs r).0 xs rs ∙ (joined_nodes And 1 (literals s xs r).0 (literals s xs r).1 ∙ literals_nodes s xs r)

closed_nodes : (on : Bool) (t : State × ℕ) → (closed on t).0.node_of ≡ t.0.node_of
closed_nodes true t = refl
closed_nodes false t = refl

sum_nodes : (o : Option Bool) (s : State) (c : Cover) → (node_by o s c).0.node_of ≡ s.node_of
sum_nodes (Some ends) s c = closed_nodes ends (with_gate s Xor (map s.node_of c.inputs), length s.made)
sum_nodes None s c = closed_nodes c.on (joined Or 0 (terms s c.inputs c.rows).0 (terms s c.inputs c.rows).1) ∙ (joined_nodes Or 0 (terms s c.inputs c.rows).0 (terms s c.inputs c.rows).1 ∙ terms_nodes s c.inputs c.rows)

cover_nodes : (s : State) (c : Cover) → (cover_node s c).0.node_of ≡ s.node_of
cover_nodes s c = sum_nodes (parity_ending c) s c

other_kept : (s : State) (cs : List Cover) (x : Word) → ((c : Cover) → In cs c → c.output ≡ x → ⊥) → (with_covers s cs).node_of x ≡ s.node_of x
other_kept s [] x h = refl
other_kept s (c ∷ cs) x h = other_kept (with_cover s c) cs x (λ d i. h d (inr i)) ∙ by_test (is_word x c.output) refl
  where
    by_test : (b : Bool) → is_word x c.output ≡ b → cond b (cover_node s c).1 ((cover_node s c).0.node_of x) ≡ s.node_of x
    by_test true same = absurd (h c (inl refl) (sym (same_word x c.output same)))
    by_test false same = ap (λ (f : Word → ℕ). f x) (cover_nodes s c)

source_at : (n : ℕ) (xs : List Word) (k : ℕ) (x : Word) → is_distinct xs ≡ true → slice_get xs k ≡ Some x → source_node n xs x ≡ n + k
source_at n [] k x e h = absurd cc
source_at n (y ∷ xs) zero x e h = let is : y ≡ x = cc in let same : is_word x y ≡ true = ap (λ (z : Word). is_word x z) is ∙ is_word-same x in rw same (omega arith)
source_at n (y ∷ xs) (suc k) x e h = by_test (is_word x y) refl (distinct_rest y xs e).0 (source_at (suc n) xs k x (distinct_rest y xs e).1 h)
  where
    by_test : (b : Bool) → is_word x y ≡ b → is_among xs y ≡ false → source_node (suc n) xs x ≡ suc n + k → cond b n (source_node (suc n) xs x) ≡ n + suc k
    by_test true same out rest =
        let there : is_among xs y ≡ true = ap (λ (z : Word). is_among xs z) (sym (same_word x y same)) ∙ among_in xs x (in_at xs k x h) in
        let bad : true ≡ false = sym there ∙ out in absurd cc
    by_test false same out rest = omega arith

module _ (m : Model) (h : IsRankable m) where
  pub not_source : (c : Cover) → In m.covers c → In (source_names m) c.output → ⊥
  not_source c i s = distinct_parts (source_names m) (map (λ (c : Cover). c.output) m.covers) c.output h.formed.driven_once s (in_mapped (λ (c : Cover). c.output) m.covers c i)

  pub same_cover : (c d : Cover) → In m.covers c → In m.covers d → c.output ≡ d.output → c ≡ d
  same_cover c d i j e = outputs_differ m.covers c d (distinct-right (source_names m) (map (λ (c : Cover). c.output) m.covers) h.formed.driven_once) i j e

  -- a cover whose output is there is taken
  pub taken_there : (c : Cover) (x : Word) → In m.covers c → c.output ≡ x → (is_among (source_names m) x ≡ true) ⊎ ((d : Cover) × (In (taken m) d × (d.output ≡ x))) → In (taken m) c
  taken_there c x i e (inl s) = absurd (not_source c i (let P : Word → Type 0 = λ y. In (source_names m) y in subst P (sym e) (in_among (source_names m) x s)))
  taken_there c x i e (inr d) = let P : Cover → Type 0 = λ y. In (taken m) y in subst P (same_cover d.0 c (taken_in m h d.0 d.1.0) i (d.1.1 ∙ sym e)) d.1.0

  pub needed_taken : (x : Word) → IsNeeded m x → (is_among (source_names m) x ≡ true) ⊎ ((d : Cover) × (In (taken m) d × (d.output ≡ x)))
  needed_taken x (observed e) = onto_cases (source_names m) (taken m) x (observed_there m h x (in_among (observed_names m) x e))
  needed_taken x (read c i n r) =
      let there = taken_there c c.output (in_contained m.covers c i.0 i.1 i.2) refl (needed_taken c.output n) in
      reading_there (source_names m) (taken m) c x (taken_reading m h) there (in_among c.inputs x r)

  pub taken_is_needed : (cs : List Cover) → ((c : Cover) → In (needed_of (observed_names m) cs) c → In m.covers c) → (c : Cover) → In (needed_of (observed_names m) cs) c → IsNeeded m c.output
  taken_is_needed [] inside c i = absurd i
  taken_is_needed (d ∷ cs) inside c i = by_need (is_needed (observed_names m) (needed_of (observed_names m) cs) d.output) refl (taken_is_needed cs) inside i
    where
      by_need : (b : Bool) → is_needed (observed_names m) (needed_of (observed_names m) cs) d.output ≡ b
          → (((c : Cover) → In (needed_of (observed_names m) cs) c → In m.covers c) → (c : Cover) → In (needed_of (observed_names m) cs) c → IsNeeded m c.output)
          → ((c : Cover) → In (cond b (d ∷ needed_of (observed_names m) cs) (needed_of (observed_names m) cs)) c → In m.covers c)
          → In (cond b (d ∷ needed_of (observed_names m) cs) (needed_of (observed_names m) cs)) c → IsNeeded m c.output
      by_need true e next inside (inr i) = next (λ k j. inside k (inr j)) c i
      by_need true e next inside (inl same) =
          let P : Cover → Type 0 = λ y. IsNeeded m y.output in
          subst P same
          (elim (or_cases (is_among (observed_names m) d.output) (list_any (λ (k : Cover). is_among k.inputs d.output) (needed_of (observed_names m) cs)) e) [
            | inl o ↦ observed o
            | inr r ↦
                let k = in_any (λ (k : Cover). is_among k.inputs d.output) (needed_of (observed_names m) cs) r in
                read k.0 (in_contains m.covers k.0 (inside k.0 (inr k.1.0))) (next (λ k j. inside k (inr j)) k.0 k.1.0) k.1.1
          ])
      by_need false e next inside i = next inside c i

  pub points : HasPoints (net_of_model m) m
  points = record {
    same = λ i j x a b. slice_get-map (last_state m).node_of (observed_names m) i ∙ (ap (λ (o : Option Word). option_map (last_state m).node_of o) (a ∙ sym b) ∙ sym (slice_get-map (last_state m).node_of (observed_names m) j));
    own = λ i k x a b.
        slice_get-map (last_state m).node_of (observed_names m) i ∙ (ap (λ (o : Option Word). option_map (last_state m).node_of o) a ∙ ap (λ (n : ℕ). Some n)
        (other_kept (start m) (taken m) x (λ c t e. not_source c (taken_in m h c t) (let P : Word → Type 0 = λ y. In (source_names m) y in subst P (sym e) (in_at (source_names m) k x b)))
        ∙ source_at 2 (source_names m) k x (distinct-left (source_names m) (map (λ (c : Cover). c.output) m.covers) h.formed.driven_once) b));
  }
