-- The covers of the model of a net: one a gate, and then copies and constants.
use Rattle.std.proofs.Common.{◌≡◌, ◌≢◌, ◌≤◌, ◌<◌, ◌+◌, ℕ, zero, suc, Bool, true, false, not, List, [], ◌∷◌, ◌++◌, map, length, refl, sym, ◌∙◌, ap, arith, subst, ◌⊎◌, inl, inr, ◌||◌}
use Rattle.std.specs.Prelude.{Option, None, Some, slice_get, if◌then◌else◌, nat_eq}
use Rattle.std.proofs.lemmas.Option.{slice_get_within}
use Rattle.std.proofs.lemmas.Bool.Decides.{eqb_tells}
use Rattle.std.proofs.lemmas.Bool.{and_parts}
use Rattle.rm_model.specs.Value.{is_among, outputs_of}
use Rattle.rm_model.specs.WellFormed.{is_distinct}
use Rattle.rm_model.specs.declared.parts.Cover.{Cover}
use Rattle.rm_model.specs.declared.parts.Model.{Model}
use Rattle.gate_net.specs.declared.Kind.{Kind}
use Rattle.gate_net.specs.declared.Kind.TheVariants.{Source, Zero, One, And, Or, Not, Xor}
use Rattle.gate_net.specs.Net.{Node, Net, node_at, flatten_option, IsGateKind}
use Rattle.cover_decompose.proofs.Public.{among_in, in_among}
use Rattle.graph_to_model.specs.Names.{node_name}
use Rattle.rm_model.specs.declared.parts.Literal.TheVariants.{One as One1}
use Rattle.graph_to_model.specs.NetModel.{cover_with, gate_cover_of, gate_cover, gate_covers, onto, copy_cover, copy_covers}
use Rattle.graph_to_model.proofs.GateValues.{cover_of}
use Rattle.rm_base.proofs.Public.{both_and, in_append, in_map, not_excludes}
use Rattle.rm_base.specs.Members.{In}
use Rattle.rm_base.specs.Words.{Word}
use Rattle.rm_model.specs.Words.{is_word}
use Rattle.graph_to_model.specs.Inner.Covers.{AreNodesFrom, IsGateCover, IsCopyCover}

-- DISTINCT NAMES
not_true : (b : Bool) → (b ≡ true → ⊥) → not b ≡ true
not_true true h = absurd (h refl)
not_true false h = refl

pub distinct_cons : (x : Word) (xs : List Word) → (In xs x → ⊥) → is_distinct xs ≡ true → is_distinct (x ∷ xs) ≡ true
distinct_cons x xs out rest = both_and (not (is_among xs x)) (is_distinct xs) (not_true (is_among xs x) (λ e. out (in_among xs x e))) rest

pub distinct_head : (x : Word) (xs : List Word) → is_distinct (x ∷ xs) ≡ true → In xs x → ⊥
distinct_head x xs e i = not_excludes (is_among xs x) (and_parts (not (is_among xs x)) (is_distinct xs) e).0 (among_in xs x i)

pub distinct_tail : (x : Word) (xs : List Word) → is_distinct (x ∷ xs) ≡ true → is_distinct xs ≡ true
distinct_tail x xs e = (and_parts (not (is_among xs x)) (is_distinct xs) e).1

pub distinct-append : (xs ys : List Word) → is_distinct xs ≡ true → is_distinct ys ≡ true → ((x : Word) → In xs x → In ys x → ⊥) → is_distinct (xs ++ ys) ≡ true
distinct-append [] ys h k apart = k
distinct-append (x ∷ xs) ys h k apart =
    distinct_cons x (xs ++ ys) (λ i. elim (in_append xs ys x i) [ inl a ↦ distinct_head x xs h a | inr b ↦ apart x (inl refl) b ])
    (distinct-append xs ys (distinct_tail x xs h) k (λ y a b. apart y (inr a) b))

-- GATES
pub cover_made : (kind : Kind) (inputs : List Word) (output : Word) → IsGateKind kind → (c : Cover) × (gate_cover_of kind inputs output ≡ Some c)
cover_made Source inputs output h = absurd h
cover_made Zero inputs output h = absurd h
cover_made One inputs output h = absurd h
cover_made And inputs output h = (_, refl)
cover_made Or inputs output h = (_, refl)
cover_made Not inputs output h = (_, refl)
cover_made Xor inputs output h = (_, refl)

pub rest_from : (net : Net) (n : ℕ) (o : Option Node) (os : List (Option Node)) → AreNodesFrom net n (o ∷ os) → AreNodesFrom net (n + 1) os
rest_from net n o os same k p e = let next : n + suc k ≡ n + 1 + k = omega arith in subst (λ (z : ℕ). node_at net z ≡ p) next (same (suc k) p e)

pub first_from : (net : Net) (n : ℕ) (o : Option Node) (os : List (Option Node)) → AreNodesFrom net n (o ∷ os) → node_at net n ≡ o
first_from net n o os same = let here : n + 0 ≡ n = omega arith in subst (λ (z : ℕ). node_at net z ≡ o) here (same 0 o refl)

pub all_from_start : (net : Net) → AreNodesFrom net 0 net.nodes
all_from_start net k o e = let here : 0 + k ≡ k = omega arith in subst (λ (z : ℕ). node_at net z ≡ o) (sym here) (ap flatten_option e)

module _ (m : Model) (net : Net) where
  gate_cover_is : (n : ℕ) (o : Option Node) (c : Cover) → node_at net n ≡ o → gate_cover m net n o ≡ Some c → IsGateCover m net n c
  gate_cover_is n None c at e = absurd cc
  gate_cover_is n (Some node) c at e = record { node = node; at = at; cover = cover_of node.kind (map (node_name m net) node.drivers) (node_name m net n) c e }

  abbrev Found : ℕ → ℕ → Cover → Type 0
  Found n k c = (x : ℕ) × ((n ≤ x) × ((x < n + k) × IsGateCover m net x c))

  later_found : (n k : ℕ) (c : Cover) → Found (n + 1) k c → Found n (suc k) c
  later_found n k c f = (f.0, (omega (arith, f.1.0), (omega (arith, f.1.1.0), f.1.1.1)))

  onto_cases : (o : Option Cover) (cs : List Cover) (c : Cover) → In (onto o cs) c → (o ≡ Some c) ⊎ In cs c
  onto_cases None cs c i = inr i
  onto_cases (Some d) cs c i = elim i [ inl e ↦ inl (ap Some e) | inr j ↦ inr j ]

  pub in_gates : (n : ℕ) (os : List (Option Node)) (c : Cover) → AreNodesFrom net n os → In (gate_covers m net n os) c → (x : ℕ) × ((n ≤ x) × ((x < n + length os) × IsGateCover m net x c))
  in_gates n [] c same i = absurd i
  in_gates n (o ∷ os) c same i = elim (onto_cases (gate_cover m net n o) (gate_covers m net (n + 1) os) c i) [
    | inl e ↦ (n, (omega arith, (omega arith, gate_cover_is n o c (first_from net n o os same) e)))
    | inr j ↦ later_found n (length os) c (in_gates (n + 1) os c (rest_from net n o os same) j)
  ]

  in_onto : (o : Option Cover) (cs : List Cover) (c : Cover) → In cs c → In (onto o cs) c
  in_onto None cs c i = i
  in_onto (Some d) cs c i = inr i

  in_first : (o : Option Cover) (cs : List Cover) (c : Cover) → o ≡ Some c → In (onto o cs) c
  in_first None cs c e = absurd cc
  in_first (Some d) cs c e = inl (cc)

  abbrev Made : ℕ → List (Option Node) → ℕ → Type 0
  Made n os x = (c : Cover) × (In (gate_covers m net n os) c × IsGateCover m net x c)

  pub gates_in : (n : ℕ) (os : List (Option Node)) → AreNodesFrom net n os → (x : ℕ) (node : Node) → n ≤ x → x < n + length os → node_at net x ≡ Some node → IsGateKind node.kind → Made n os x
  gates_in n [] same x node low high at gate = absurd (omega arith)
  gates_in n (o ∷ os) same x node low high at gate = elim (eqb_tells x n) [
    | inl t ↦
        let here : node_at net n ≡ Some node = subst (λ (z : ℕ). node_at net z ≡ Some node) t.1 at in
        let is : o ≡ Some node = sym (first_from net n o os same) ∙ here in
        let made = cover_made node.kind (map (node_name m net) node.drivers) (node_name m net n) gate in
        let e : gate_cover m net n o ≡ Some made.0 = ap (λ (p : Option Node). gate_cover m net n p) is ∙ made.1 in (
          made.0,
          (
            in_first (gate_cover m net n o) (gate_covers m net (n + 1) os) made.0 e,
            subst (λ (z : ℕ). IsGateCover m net z made.0) (sym t.1) (gate_cover_is n o made.0 (first_from net n o os same) e),
          ),
        )
    | inr f ↦
        let ne : x ≢ n = f.1 in
        let later = gates_in (n + 1) os (rest_from net n o os same) x node (omega arith) (omega arith) at gate in
        (later.0, (in_onto (gate_cover m net n o) (gate_covers m net (n + 1) os) later.0 later.1.0, later.1.1))
  ]

-- COPIES
copy_by : (m : Model) (net : Net) (n : ℕ) (x : Word) (a b : Bool) → (if a then cover_with [] x true [] else (if b then cover_with [] x true ([] ∷ []) else cover_with (node_name m net n ∷ []) x true ((One1 ∷ []) ∷ []))).output ≡ x
copy_by m net n x true b = refl
copy_by m net n x false true = refl
copy_by m net n x false false = refl

pub copy_out : (m : Model) (net : Net) (n : ℕ) (x : Word) → (copy_cover m net n x).output ≡ x
copy_out m net n x = copy_by m net n x (nat_eq n 0) (nat_eq n 1)

pub not_had : (xs : List Word) (x : Word) → is_among xs x ≡ false → In xs x → ⊥
not_had xs x e i = let bad : true ≡ false = sym (among_in xs x i) ∙ e in cc

later_absent : (x : Word) (xs : List Word) (y : Word) → is_among (x ∷ xs) y ≡ false → is_among xs y ≡ false
later_absent x xs y e = at (is_word y x) e
  where
    at : (b : Bool) → (b || is_among xs y) ≡ false → is_among xs y ≡ false
    at true f = cc
    at false f = f

module _ (m : Model) (net : Net) where
  shifted : (had more : List Word) (n : ℕ) (x : Word) (ns : List ℕ) (xs : List Word) (c : Cover) → ((y : Word) → is_among had y ≡ false → is_among more y ≡ false) → IsCopyCover m net had ns xs c → IsCopyCover m net more (n ∷ ns) (x ∷ xs) c
  shifted had more n x ns xs c sub h = record { node = h.node; name = h.name; at = (suc h.at.0, h.at.1); is = h.is; fresh = sub h.name h.fresh }

  pub in_copies : (had : List Word) (ns : List ℕ) (xs : List Word) (c : Cover) → In (copy_covers m net had ns xs) c → IsCopyCover m net had ns xs c
  in_copies had [] xs c i = absurd i
  in_copies had (n ∷ ns) [] c i = absurd i
  in_copies had (n ∷ ns) (x ∷ xs) c i = by_test (is_among had x) refl i (λ j. in_copies had ns xs c j) (λ j. in_copies (x ∷ had) ns xs c j)
    where
      by_test : (b : Bool) → is_among had x ≡ b → In (if b then copy_covers m net had ns xs else copy_cover m net n x ∷ copy_covers m net (x ∷ had) ns xs) c → (In (copy_covers m net had ns xs) c → IsCopyCover m net had ns xs c) → (In (copy_covers m net (x ∷ had) ns xs) c → IsCopyCover m net (x ∷ had) ns xs c) → IsCopyCover m net had (n ∷ ns) (x ∷ xs) c
      by_test true e j old new = shifted had had n x ns xs c (λ y k. k) (old j)
      by_test false e j old new = elim j [
        | inl is ↦ record { node = n; name = x; at = (0, (refl, refl)); is = sym is; fresh = e }
        | inr k ↦ shifted (x ∷ had) had n x ns xs c (λ y l. later_absent x had y l) (new k)
      ]

  pub copies_distinct : (had : List Word) (ns : List ℕ) (xs : List Word) → is_distinct (outputs_of (copy_covers m net had ns xs)) ≡ true
  copies_distinct had [] xs = refl
  copies_distinct had (n ∷ ns) [] = refl
  copies_distinct had (n ∷ ns) (x ∷ xs) = by_test (is_among had x) (copies_distinct had ns xs) (copies_distinct (x ∷ had) ns xs)
    where
      apart : In (outputs_of (copy_covers m net (x ∷ had) ns xs)) (copy_cover m net n x).output → ⊥
      apart i =
          let found = in_map (λ (c : Cover). c.output) (copy_covers m net (x ∷ had) ns xs) (copy_cover m net n x).output i in
          let copy = in_copies (x ∷ had) ns xs found.0 found.1.0 in
          let same : copy.name ≡ x = sym (copy_out m net copy.node copy.name) ∙ (sym (ap (λ (c : Cover). c.output) copy.is) ∙ (found.1.1 ∙ copy_out m net n x)) in
          not_had (x ∷ had) copy.name copy.fresh (inl (sym same))

      by_test : (b : Bool) → is_distinct (outputs_of (copy_covers m net had ns xs)) ≡ true → is_distinct (outputs_of (copy_covers m net (x ∷ had) ns xs)) ≡ true → is_distinct (outputs_of (if b then copy_covers m net had ns xs else copy_cover m net n x ∷ copy_covers m net (x ∷ had) ns xs)) ≡ true
      by_test true old new = old
      by_test false old new = distinct_cons (copy_cover m net n x).output (outputs_of (copy_covers m net (x ∷ had) ns xs)) apart new

  abbrev pub HasOrCopies : List Word → List ℕ → List Word → Word → Type 0
  HasOrCopies had ns xs x = In had x ⊎ ((c : Cover) × (In (copy_covers m net had ns xs) c × (c.output ≡ x)))

  no_place : {A : Type 0} (k : ℕ) (a : A) → slice_get {X = A} [] k ≡ Some a → ⊥
  no_place zero a e = cc
  no_place (suc k) a e = cc

  first_copied : (had : List Word) (j : ℕ) (ns : List ℕ) (y : Word) (xs : List Word) (b : Bool) → is_among had y ≡ b → In had y ⊎ ((c : Cover) × (In (if b then copy_covers m net had ns xs else copy_cover m net j y ∷ copy_covers m net (y ∷ had) ns xs) c × (c.output ≡ y)))
  first_copied had j ns y xs true e = inl (in_among had y e)
  first_copied had j ns y xs false e = inr (copy_cover m net j y, (inl refl, copy_out m net j y))

  later_copied : (had : List Word) (j : ℕ) (ns : List ℕ) (y : Word) (xs : List Word) (x : Word) (b : Bool) → HasOrCopies had ns xs x → HasOrCopies (y ∷ had) ns xs x → In had x ⊎ ((c : Cover) × (In (if b then copy_covers m net had ns xs else copy_cover m net j y ∷ copy_covers m net (y ∷ had) ns xs) c × (c.output ≡ x)))
  later_copied had j ns y xs x true old new = old
  later_copied had j ns y xs x false old new = elim new [
    | inl i ↦ elim i [ inl e ↦ inr (copy_cover m net j y, (inl refl, copy_out m net j y ∙ e)) | inr k ↦ inl k ]
    | inr found ↦ inr (found.0, (inr found.1.0, found.1.1))
  ]

  -- each name is had or copied
  pub copies_in : (had : List Word) (ns : List ℕ) (xs : List Word) (n : ℕ) (x : Word) (k : ℕ) → slice_get ns k ≡ Some n → slice_get xs k ≡ Some x → In had x ⊎ ((c : Cover) × (In (copy_covers m net had ns xs) c × (c.output ≡ x)))
  copies_in had [] xs n x k e f = absurd (no_place k n e)
  copies_in had (j ∷ ns) [] n x k e f = absurd (no_place k x f)
  copies_in had (j ∷ ns) (y ∷ xs) n x zero e f =
      let same : y ≡ x = cc in
      subst (λ (z : Word). HasOrCopies had (j ∷ ns) (y ∷ xs) z) same (first_copied had j ns y xs (is_among had y) refl)
  copies_in had (j ∷ ns) (y ∷ xs) n x (suc k) e f =
      later_copied had j ns y xs x (is_among had y) (copies_in had ns xs n x k e f) (copies_in (y ∷ had) ns xs n x k e f)

-- places of a list
pub place_of : (xs : List Word) (x : Word) → In xs x → (k : ℕ) × (slice_get xs k ≡ Some x)
place_of [] x i = absurd i
place_of (y ∷ xs) x (inl e) = (0, ap Some e)
place_of (y ∷ xs) x (inr j) = let r = place_of xs x j in (suc r.0, r.1)

-- names of the gates from a number on differ where that of the first gate differs from the later ones
pub onto_names : (m : Model) (net : Net) (n : ℕ) (o : Option Node) (os : List (Option Node)) → AreNodesFrom net n (o ∷ os) → ((c : Cover) → IsGateCover m net n c → In (outputs_of (gate_covers m net (n + 1) os)) c.output → ⊥) → is_distinct (outputs_of (gate_covers m net (n + 1) os)) ≡ true → is_distinct (outputs_of (gate_covers m net n (o ∷ os))) ≡ true
onto_names m net n o os same apart rest = by_cover (gate_cover m net n o) refl
  where
    by_cover : (p : Option Cover) → gate_cover m net n o ≡ p → is_distinct (outputs_of (onto p (gate_covers m net (n + 1) os))) ≡ true
    by_cover None e = rest
    by_cover (Some c) e = distinct_cons c.output (outputs_of (gate_covers m net (n + 1) os)) (apart c (gate_cover_is m net n o c (first_from net n o os same) e)) rest

-- live numbers are below the bound
pub live_within : (net : Net) (x : ℕ) (node : Node) → node_at net x ≡ Some node → x < length net.nodes
live_within net x node e = told (slice_get net.nodes x) refl
  where
    told : (o : Option (Option Node)) → slice_get net.nodes x ≡ o → x < length net.nodes
    told None f = let none : None ≡ Some node = sym (ap flatten_option f) ∙ e in absurd cc
    told (Some o) f = slice_get_within net.nodes x o f
