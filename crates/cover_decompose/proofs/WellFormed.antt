-- The net of a decomposition is well formed, with the model's sources.
use Rattle.std.proofs.Common.{◌≡◌, ◌≢◌, ◌<◌, ◌≤◌, ◌+◌, ℕ, zero, suc, List, [], ◌∷◌, length, map, refl, sym, ap, subst, ◌∙◌, ◌⊎◌, inl, inr, arith}
use Rattle.std.specs.Prelude.{Some, None, Option, slice_get, replicate, sum_by}
use Rattle.std.specs.Option.{option_map}
use Rattle.std.specs.List.{AllByRecursion}
use Rattle.std.proofs.lemmas.Option.{slice_get-map, slice_get_within}
use Rattle.rm_model.specs.Value.{source_names, observed_names}
use Rattle.rm_model.specs.declared.parts.Model.{Model}
use Rattle.gate_net.specs.declared.Kind.{Kind}
use Rattle.gate_net.specs.declared.Kind.TheVariants.{Source, Zero, One, And, Or, Not, Xor}
use Rattle.gate_net.specs.Net.{Node, node_at, drivers_in, flatten_option, IsKind, Reads, source_count, source_in, count_in, trimmed, IsWellFormed, IsGate, IsGateKind, wire_count}
use Rattle.cover_decompose.specs.Inner.Built.{AllBelow, IsGateNode}
use Rattle.cover_decompose.specs.Needed.{taken}
use Rattle.cover_decompose.specs.Decomposition.{plain, start, last_state, net_of_model}
use Rattle.cover_decompose.proofs.Formed.{IsMade, covers_made}
use Rattle.cover_decompose.proofs.Places.{get_parts}
use Rattle.cover_decompose.proofs.Stands.{node_there}
use Rattle.cover_decompose.proofs.Started.{get_replicate, replicate_there, start-length, start-made}
use Rattle.cover_decompose.proofs.Sums.{sum-total, total, total-append, total-map}
use Rattle.rm_base.proofs.Public.{front_stands}
use Rattle.rm_base.specs.Words.{Word}

there_node : (made : List Node) (observed : List ℕ) (x : ℕ) (n : Node) → node_at (record { nodes = map (λ n. Some n) made; observed = observed }) x ≡ Some n → slice_get made x ≡ Some n
there_node made observed x n e = by_node (slice_get made x) (sym (ap (λ (o : Option (Option Node)). flatten_option o) (slice_get-map (λ (n : Node). Some n) made x)) ∙ e)
  where
    by_node : (o : Option Node) → flatten_option (option_map (λ (n : Node). Some n) o) ≡ Some n → o ≡ Some n
    by_node None e = absurd cc
    by_node (Some k) e = e

pub is_live : (made : List Node) (observed : List ℕ) (x : ℕ) → x < length made → node_at (record { nodes = map (λ n. Some n) made; observed = observed }) x ≢ None
is_live made observed x lt e = let there = at made x lt in let bad : Some there.0 ≡ None = sym (node_there made observed x there.0 there.1) ∙ e in absurd cc
  where
    at : (xs : List Node) (k : ℕ) → k < length xs → (n : Node) × (slice_get xs k ≡ Some n)
    at [] k lt = absurd (omega arith)
    at (x ∷ xs) zero lt = (x, refl)
    at (x ∷ xs) (suc k) lt = at xs k (omega arith)

-- what a node is by its number
abbrev pub IsPlaced : ℕ → ℕ → Node → Type 0
IsPlaced sources x n = ((x ≡ 0) × (n.kind ≡ Zero)) ⊎ (((x ≡ 1) × (n.kind ≡ One)) ⊎ ((((2 ≤ x) × (x < 2 + sources)) × (n.kind ≡ Source)) ⊎ ((2 + sources ≤ x) × IsGateNode n)))

kind_same : (n k : Node) → n ≡ k → k.kind ≡ n.kind
kind_same n k e = ap (λ (x : Node). x.kind) (sym e)

start_placed : (sources x : ℕ) (n : Node) → slice_get (plain Zero ∷ plain One ∷ replicate sources (plain Source)) x ≡ Some n → IsPlaced sources x n
start_placed sources zero n e = inl (refl, kind_same (plain Zero) n cc)
start_placed sources (suc zero) n e = inr (inl (refl, kind_same (plain One) n cc))
start_placed sources (suc (suc x)) n e = let r = get_replicate sources x (plain Source) n e in inr (inr (inl ((omega arith, let lt : x < sources = r.1 in omega arith), ap (λ (k : Node). k.kind) r.0)))

pub gate_at : (gates : List Node) (k : ℕ) (n : Node) → AllByRecursion IsGateNode gates → slice_get gates k ≡ Some n → IsGateNode n
gate_at [] k n h e = absurd cc
gate_at (g ∷ gates) zero n h e = let is : g ≡ n = cc in let P : Node → Type 0 = λ k. IsGateNode k in subst P is h.0
gate_at (g ∷ gates) (suc k) n h e = gate_at gates k n h.1 e

below_at : (y : ℕ) (xs : List ℕ) (p x : ℕ) → AllBelow y xs → slice_get xs p ≡ Some x → x < y
below_at y [] p x h e = absurd cc
below_at y (z ∷ xs) zero x h e = let is : z ≡ x = cc in let lt : z < y = h.0 in omega arith
below_at y (z ∷ xs) (suc p) x h e = below_at y xs p x h.1 e

pub all_live : (xs : List Node) → trimmed (map (λ n. Some n) xs) ≡ map (λ n. Some n) xs
all_live [] = refl
all_live (x ∷ xs) = ap (λ (ys : List (Option Node)). Some x ∷ ys) (all_live xs)

-- how many sources a node is
source_of : Node → ℕ
source_of n = source_in n.kind

no_source : (kind : Kind) → IsGateKind kind → source_in kind ≡ 0
no_source Source g = absurd g
no_source Zero g = refl
no_source One g = refl
no_source And g = refl
no_source Or g = refl
no_source Not g = refl
no_source Xor g = refl

no_sources : (gates : List Node) → AllByRecursion IsGateNode gates → total (λ (n : Node). source_in n.kind) gates ≡ 0
no_sources [] h = refl
no_sources (g ∷ gates) h =
    let rest : total (λ (n : Node). source_in n.kind) gates ≡ 0 = no_sources gates h.1 in
    let here : source_in g.kind ≡ 0 = no_source g.kind h.0.kind in
    omega arith

each_source : (n : ℕ) → total (λ (n : Node). source_in n.kind) (replicate n (plain Source)) ≡ n
each_source zero = refl
each_source (suc n) = ap (λ (k : ℕ). 1 + k) (each_source n) ∙ omega arith

module _ (m : Model) where
  pub made : IsMade (start m).made (last_state m)
  made = covers_made (start m).made (start m) (taken m) (let e : length (start m).made ≡ 2 + length (source_names m) = start-length m in omega arith) (start-made m)

  placed : (x : ℕ) (n : Node) → slice_get (last_state m).made x ≡ Some n → IsPlaced (length (source_names m)) x n
  placed x n e =
      elim (get_parts (start m).made made.gates x n (ap (λ (ns : List Node). slice_get ns x) (sym made.made_is) ∙ e)) [
        | inl s ↦ start_placed (length (source_names m)) x n s
        | inr g ↦ inr (inr (inr ((let at : x ≡ length (start m).made + g.0 = g.1.0 in let l : length (start m).made ≡ 2 + length (source_names m) = start-length m in omega arith), gate_at made.gates g.0 n made.are_gates g.1.1)))
      ]

  pub sources_are : source_count (net_of_model m) ≡ length (source_names m)
  sources_are =
      let of_net : sum_by (λ (o : Option Node). count_in o source_in) (map (λ n. Some n) (last_state m).made) ≡ total (λ (n : Node). source_in n.kind) (last_state m).made =
      sum-total (λ (o : Option Node). count_in o source_in) (map (λ n. Some n) (last_state m).made) ∙ total-map (λ (o : Option Node). count_in o source_in) (λ (n : Node). Some n) (last_state m).made in
      let parts : total (λ (n : Node). source_in n.kind) (last_state m).made ≡ total (λ (n : Node). source_in n.kind) (start m).made + total (λ (n : Node). source_in n.kind) made.gates =
      ap (λ (ns : List Node). total (λ (n : Node). source_in n.kind) ns) made.made_is ∙ total-append (λ (n : Node). source_in n.kind) (start m).made made.gates in
      let gates : total (λ (n : Node). source_in n.kind) made.gates ≡ 0 = no_sources made.gates made.are_gates in
      let firsts : total (λ (n : Node). source_in n.kind) (replicate (length (source_names m)) (plain Source)) ≡ length (source_names m) = each_source (length (source_names m)) in
      of_net ∙ (parts ∙ omega arith)

  at_start : (x : ℕ) (n : Node) → slice_get (start m).made x ≡ Some n → node_at (net_of_model m) x ≡ Some n
  at_start x n e = node_there (last_state m).made (net_of_model m).observed x n (ap (λ (ns : List Node). slice_get ns x) made.made_is ∙ front_stands (start m).made made.gates x n e)

  by_kind : (x : ℕ) (kind : Kind) → IsKind (net_of_model m) x kind → (n : Node) × ((slice_get (last_state m).made x ≡ Some n) × (n.kind ≡ kind))
  by_kind x kind k = (record { kind = kind; drivers = k.0 }, (there_node (last_state m).made (net_of_model m).observed x (record { kind = kind; drivers = k.0 }) k.1, refl))

  gate_kind : (n : Node) → IsGateNode n → (n.kind ≡ Zero → ⊥) × ((n.kind ≡ One → ⊥) × (n.kind ≡ Source → ⊥))
  gate_kind n g = let P : Kind → Type 0 = λ k. IsGateKind k in ((λ e. subst P e g.kind), ((λ e. subst P e g.kind), (λ e. subst P e g.kind)))

  placed_gate : (y : ℕ) (n : Node) → IsPlaced (length (source_names m)) y n → IsGateKind n.kind → IsGateNode n
  placed_gate y n (inl a) g = absurd (let P : Kind → Type 0 = λ k. IsGateKind k in subst P a.1 g)
  placed_gate y n (inr (inl a)) g = absurd (let P : Kind → Type 0 = λ k. IsGateKind k in subst P a.1 g)
  placed_gate y n (inr (inr (inl a))) g = absurd (let P : Kind → Type 0 = λ k. IsGateKind k in subst P a.1 g)
  placed_gate y n (inr (inr (inr a))) g = a.1

  -- what is known of a gate of this kind
  gate_of : (y : ℕ) (kind : Kind) (k : IsKind (net_of_model m) y kind) → IsGateKind kind → IsGateNode (record { kind = kind; drivers = k.0 })
  unfolding by_kind
  gate_of y kind k g = let n = by_kind y kind k in placed_gate y (record { kind = kind; drivers = k.0 }) (placed y n.0 n.1.0) g

  reader : (y p x : ℕ) → Reads (net_of_model m) y p x → (n : Node) × ((slice_get (last_state m).made y ≡ Some n) × (slice_get n.drivers p ≡ Some x))
  reader y p x r = by_node (node_at (net_of_model m) y) refl r
    where
      by_node : (o : Option Node) → node_at (net_of_model m) y ≡ o → slice_get (drivers_in o) p ≡ Some x → (n : Node) × ((slice_get (last_state m).made y ≡ Some n) × (slice_get n.drivers p ≡ Some x))
      by_node None e r = absurd cc
      by_node (Some n) e r = (n, (there_node (last_state m).made (net_of_model m).observed y n e, r))

  pub reads_lower : (y p x : ℕ) → Reads (net_of_model m) y p x → x < y
  reads_lower y p x r = let n = reader y p x r in below_at y n.0.drivers p x (made.below y n.0 n.1.0) n.1.1

  pub well_formed : IsWellFormed (net_of_model m)
  unfolding by_kind
  well_formed = record {
    acyclic = ((λ x. x), λ y p x r. reads_lower y p x r);
    constants = record { zero_is = at_start 0 (plain Zero) refl; one_is = at_start 1 (plain One) refl };
    only_zero = λ x k. let n = by_kind x Zero k in elim (placed x n.0 n.1.0) [
      | inl a ↦ a.0
      | inr r ↦ elim r [ inl a ↦ (let e : n.0.kind ≡ Zero = n.1.1 in let f : n.0.kind ≡ One = a.1 in absurd cc) | inr s ↦ elim s [ inl a ↦ (let e : n.0.kind ≡ Zero = n.1.1 in let f : n.0.kind ≡ Source = a.1 in absurd cc) | inr g ↦ absurd ((gate_kind n.0 g.1).0 n.1.1) ] ]
    ];
    only_one = λ x k. let n = by_kind x One k in elim (placed x n.0 n.1.0) [
      | inl a ↦ (let e : n.0.kind ≡ One = n.1.1 in let f : n.0.kind ≡ Zero = a.1 in absurd cc)
      | inr r ↦ elim r [ inl a ↦ a.0 | inr s ↦ elim s [ inl a ↦ (let e : n.0.kind ≡ One = n.1.1 in let f : n.0.kind ≡ Source = a.1 in absurd cc) | inr g ↦ absurd ((gate_kind n.0 g.1).1.0 n.1.1) ] ]
    ];
    sources = record {
      first = λ k lt. let at : slice_get (start m).made (2 + k) ≡ Some (plain Source) = source_there (length (source_names m)) k (let e : source_count (net_of_model m) ≡ length (source_names m) = sources_are in omega arith) in at_start (2 + k) (plain Source) at;
      only = λ x k. let n = by_kind x Source k in elim (placed x n.0 n.1.0) [
        | inl a ↦ (let e : n.0.kind ≡ Source = n.1.1 in let f : n.0.kind ≡ Zero = a.1 in absurd cc)
        | inr r ↦ elim r [ inl a ↦ (let e : n.0.kind ≡ Source = n.1.1 in let f : n.0.kind ≡ One = a.1 in absurd cc) | inr s ↦ elim s [ inl a ↦ (a.0.0, (let e : source_count (net_of_model m) ≡ length (source_names m) = sources_are in let lt : x < 2 + length (source_names m) = a.0.1 in omega arith)) | inr g ↦ absurd ((gate_kind n.0 g.1).1.1 n.1.1) ] ]
      ];
    };
    nots_have_one = λ y k. let d = (gate_of y Not k tt).one refl in (d.0, ap drivers_in k.1 ∙ d.1);
    xors_have_two = λ y k. let d = (gate_of y Xor k tt).two refl in (d.0, d.1, ap drivers_in k.1 ∙ d.2);
    drivers_live = λ y p x r. let lt : x < y = reads_lower y p x r in let within : y < length (last_state m).made = reader_within y p x r in is_live (last_state m).made (net_of_model m).observed x (omega arith);
    observed_live = λ x o. is_live (last_state m).made (net_of_model m).observed x (observed_within x o.0 o.1);
    canonical = all_live (last_state m).made;
  }
    where
      source_there : (n k : ℕ) → k < n → slice_get (plain Zero ∷ plain One ∷ replicate n (plain Source)) (2 + k) ≡ Some (plain Source)
      source_there n k lt = let e : 2 + k ≡ suc (suc k) = omega arith in rw e (replicate_there n k (plain Source) lt)

      reader_within : (y p x : ℕ) → Reads (net_of_model m) y p x → y < length (last_state m).made
      reader_within y p x r = let n = reader y p x r in slice_get_within (last_state m).made y n.0 n.1.0

      observed_within : (x k : ℕ) → slice_get (map (last_state m).node_of (observed_names m)) k ≡ Some x → x < length (last_state m).made
      observed_within x k e = by_name (slice_get (observed_names m) k) (sym (slice_get-map (last_state m).node_of (observed_names m) k) ∙ e)
        where
          by_name : (o : Option Word) → option_map (last_state m).node_of o ≡ Some x → x < length (last_state m).made
          by_name None e = absurd cc
          by_name (Some w) e = let is : (last_state m).node_of w ≡ x = cc in let lt : (last_state m).node_of w < length (last_state m).made = made.nodes w in omega arith

  -- gates come after the sources
  pub gates_after : (x : ℕ) → IsGate (net_of_model m) x → 2 + length (source_names m) ≤ x
  gates_after x g =
      let n = by_kind x g.0 g.1.0 in
      elim (placed x n.0 n.1.0) [
        | inl a ↦ absurd (not_gate Zero g.0 (sym a.1 ∙ n.1.1) (λ h. h) g.1.1)
        | inr r ↦ elim r [
          | inl a ↦ absurd (not_gate One g.0 (sym a.1 ∙ n.1.1) (λ h. h) g.1.1)
          | inr s ↦ elim s [ inl a ↦ absurd (not_gate Source g.0 (sym a.1 ∙ n.1.1) (λ h. h) g.1.1) | inr h ↦ h.0 ]
        ]
      ]
    where
      not_gate : (one other : Kind) → one ≡ other → (IsGateKind one → ⊥) → IsGateKind other → ⊥
      not_gate one other e h g = h (let P : Kind → Type 0 = λ k. IsGateKind k in subst P (sym e) g)

  pub wires_made : wire_count (net_of_model m) ≡ total (λ (n : Node). length n.drivers) (last_state m).made
  wires_made = sum-total (λ (o : Option Node). length (drivers_in o)) (map (λ n. Some n) (last_state m).made) ∙ total-map (λ (o : Option Node). length (drivers_in o)) (λ (n : Node). Some n) (last_state m).made
