-- The gate covers of the model of a net are its gates, in order.
use Rattle.std.proofs.Common.{◌≡◌, ◌≢◌, ◌≤◌, ◌<◌, ◌+◌, ℕ, zero, suc, Bool, true, false, cond, List, [], ◌∷◌, ◌++◌, map, length, refl, sym, ◌∙◌, ap, arith, subst, inl, inr, nat_eq, nat_lt}
use Rattle.std.specs.Prelude.{Option, None, Some, T, slice_get, filter, if◌then◌else◌}
use Rattle.std.proofs.lemmas.List.Elements.{filter-append}
use Rattle.std.proofs.lemmas.Bool.{lt-ltb}
use Rattle.std.proofs.lemmas.List.{length-map}
use Rattle.rm_model.specs.Value.{observed_names, is_among}
use Rattle.rm_model.specs.declared.parts.Literal.TheVariants.{One as One1}
use Rattle.rm_model.specs.declared.parts.Cover.{Cover}
use Rattle.rm_model.specs.declared.parts.Model.{Model}
use Rattle.gate_net.specs.declared.Kind.{Kind}
use Rattle.gate_net.specs.declared.Kind.TheVariants.{Not}
use Rattle.gate_net.specs.Net.{Node, Net, node_at, drivers_of, IsGateKind}
use Rattle.graph_to_model.proofs.Public.{all_from_start, cover_made, cover_of, first_from, has_pins, in_gates, rest_from, two_or_more}
use Rattle.graph_to_model.specs.Names.{node_name}
use Rattle.graph_to_model.specs.NetModel.{cover_with, gate_cover, gate_covers, onto, copy_cover, copy_covers, model_of_net, covers_of_gates, names_before_copies, covers_of_copies}
use Rattle.graph_to_model.specs.Wires.{is_copy}
use Rattle.model_faults.specs.ModelFaults.{is_gate_cover, gate_covers_of}
use Rattle.gate_net.specs.Faults.{is_gate_kind, before_gates, gates_from, gates_of}
use Rattle.rm_base.proofs.Public.{some_is}
use Rattle.rm_base.specs.Members.{In}
use Rattle.rm_base.specs.Words.{Word}
use Rattle.graph_to_model.specs.Inner.Writable.{IsWritable}
use Rattle.graph_to_model.specs.Inner.Covers.{AreNodesFrom, IsGateCover}

pub gate_kind : (kind : Kind) → IsGateKind kind → is_gate_kind kind ≡ true
gate_kind kind h = by_test (is_gate_kind kind) h
  where
    by_test : (b : Bool) → T b → b ≡ true
    by_test true h = refl
    by_test false h = absurd h

pub kind_gate : (kind : Kind) → is_gate_kind kind ≡ true → IsGateKind kind
kind_gate kind e = subst (λ (b : Bool). T b) (sym e) tt

pub all_kept : (test : Cover → Bool) (cs : List Cover) → ((c : Cover) → In cs c → test c ≡ true) → filter test cs ≡ cs
all_kept test [] h = refl
all_kept test (c ∷ cs) h = rw (h c (inl refl)) (ap (λ (ds : List Cover). c ∷ ds) (all_kept test cs (λ d i. h d (inr i))))

append_none : (cs : List Cover) → cs ++ [] ≡ cs
append_none [] = refl
append_none (c ∷ cs) = ap (λ (ds : List Cover). c ∷ ds) (append_none cs)

module _ (m : Model) (net : Net) (w : IsWritable m net) where
  -- as many inputs as pins
  pub gate_pins : (x : ℕ) (c : Cover) → IsGateCover m net x c → length c.inputs ≡ length (drivers_of net x)
  gate_pins x c g =
      let own : length (drivers_of net x) ≡ length g.node.drivers = rw g.at refl in
      ap length g.cover.in_is ∙ (length-map g.node.drivers (node_name m net) ∙ sym own)

  gate_kept : (x : ℕ) (c : Cover) → IsGateCover m net x c → is_gate_cover c ≡ true
  gate_kept x c g =
      let node = g.node in
      let two : node.kind ≢ Not → 2 ≤ length (map (node_name m net) node.drivers) = two_or_more m net w x node node.kind g.at refl g.cover.gate in
      let no_copy : is_copy c ≡ false = g.cover.no_copy (has_pins m net w x node g.at) two in
      let count : length c.inputs ≡ length (map (node_name m net) node.drivers) = ap length g.cover.in_is in
      let some : nat_lt 0 (length c.inputs) ≡ true = lt-ltb 0 (length c.inputs) (some_inputs node.kind refl two count) in
      rw (no_copy, some) refl
    where
      some_inputs : (kind : Kind) → g.node.kind ≡ kind → (g.node.kind ≢ Not → 2 ≤ length (map (node_name m net) g.node.drivers)) → length c.inputs ≡ length (map (node_name m net) g.node.drivers) → 0 < length c.inputs
      some_inputs Not e two count = let one : length (map (node_name m net) g.node.drivers) ≡ 1 = (has_pins m net w x g.node g.at).one e in omega arith
      some_inputs kind e two count = let t : 2 ≤ length (map (node_name m net) g.node.drivers) = two (λ f. (let bad : kind ≡ Not = sym e ∙ f in cc)) in omega arith

  copy_dropped : (n : ℕ) (x : Word) (a b : Bool) → is_gate_cover (if a then cover_with [] x true [] else (if b then cover_with [] x true ([] ∷ []) else cover_with (node_name m net n ∷ []) x true ((One1 ∷ []) ∷ []))) ≡ false
  copy_dropped n x true b = refl
  copy_dropped n x false true = refl
  copy_dropped n x false false = refl

  copies_dropped : (given : List Word) (ns : List ℕ) (xs : List Word) → filter is_gate_cover (copy_covers m net given ns xs) ≡ []
  copies_dropped given [] xs = refl
  copies_dropped given (n ∷ ns) [] = refl
  copies_dropped given (n ∷ ns) (x ∷ xs) = by_test (is_among given x) (copies_dropped given ns xs) (copies_dropped (x ∷ given) ns xs)
    where
      by_test : (b : Bool) → filter is_gate_cover (copy_covers m net given ns xs) ≡ [] → filter is_gate_cover (copy_covers m net (x ∷ given) ns xs) ≡ [] → filter is_gate_cover (if b then copy_covers m net given ns xs else copy_cover m net n x ∷ copy_covers m net (x ∷ given) ns xs) ≡ []
      by_test true old new = old
      by_test false old new =
          let first : is_gate_cover (copy_cover m net n x) ≡ false = copy_dropped n x (nat_eq n 0) (nat_eq n 1) in
          ap (λ (b : Bool). cond b (copy_cover m net n x ∷ filter is_gate_cover (copy_covers m net (x ∷ given) ns xs)) (filter is_gate_cover (copy_covers m net (x ∷ given) ns xs))) first ∙ new

  -- the gate covers are the covers of gates
  pub gate_covers_are : gate_covers_of (model_of_net m net) ≡ covers_of_gates m net
  gate_covers_are =
      filter-append is_gate_cover (covers_of_gates m net) (covers_of_copies m net)
      ∙ (ap (λ (ds : List Cover). filter is_gate_cover (covers_of_gates m net) ++ ds) (copies_dropped (names_before_copies m net) net.observed (observed_names m))
      ∙ (append_none (filter is_gate_cover (covers_of_gates m net))
      ∙ all_kept is_gate_cover (covers_of_gates m net) (λ c i. (let g = in_gates m net 0 net.nodes c (all_from_start net) i in gate_kept g.0 c g.1.1.1))))

  -- PLACE BY PLACE
  abbrev Same : List ℕ → List Cover → Type 0
  Same xs cs = (length cs ≡ length xs) × ((k x : ℕ) (c : Cover) → slice_get xs k ≡ Some x → slice_get cs k ≡ Some c → IsGateCover m net x c)

  same_more : (x : ℕ) (c : Cover) (xs : List ℕ) (cs : List Cover) → IsGateCover m net x c → Same xs cs → Same (x ∷ xs) (c ∷ cs)
  same_more x c xs cs g same = (ap suc same.0, place)
    where
      place : (k y : ℕ) (d : Cover) → slice_get (x ∷ xs) k ≡ Some y → slice_get (c ∷ cs) k ≡ Some d → IsGateCover m net y d
      place zero y d e f = subst (λ (z : ℕ). IsGateCover m net z d) (some_is x y e) (subst (IsGateCover m net x) (some_is c d f) g)
      place (suc k) y d e f = same.1 k y d e f

  node_same : (n : ℕ) (o : Option Node) (xs : List ℕ) (cs : List Cover) → node_at net n ≡ o → Same xs cs → Same (before_gates o n xs) (onto (gate_cover m net n o) cs)
  node_same n None xs cs at same = same
  node_same n (Some node) xs cs at same = by_test (is_gate_kind node.kind) refl (gate_cover m net n (Some node)) refl
    where
      by_test : (b : Bool) → is_gate_kind node.kind ≡ b → (d : Option Cover) → gate_cover m net n (Some node) ≡ d → Same (if b then n ∷ xs else xs) (onto d cs)
      by_test true e None f =
          let made = cover_made node.kind (map (node_name m net) node.drivers) (node_name m net n) (kind_gate node.kind e) in
          absurd (let bad : None ≡ Some made.0 = sym f ∙ made.1 in cc)
      by_test true e (Some c) f = same_more n c xs cs (record { node = node; at = at; cover = cover_of node.kind (map (node_name m net) node.drivers) (node_name m net n) c f }) same
      by_test false e None f = same
      by_test false e (Some c) f =
          let h = cover_of node.kind (map (node_name m net) node.drivers) (node_name m net n) c f in
          absurd (let bad : true ≡ false = sym (gate_kind node.kind h.gate) ∙ e in cc)

  from_same : (n : ℕ) (os : List (Option Node)) → AreNodesFrom net n os → Same (gates_from n os) (gate_covers m net n os)
  from_same n [] same = (refl, λ k x c e f. none k x e)
    where
      none : {A : Type 0} (k x : ℕ) → slice_get {X = ℕ} [] k ≡ Some x → A
      none zero x e = absurd cc
      none (suc k) x e = absurd cc
  from_same n (o ∷ os) same = node_same n o (gates_from (n + 1) os) (gate_covers m net (n + 1) os) (first_from net n o os same) (from_same (n + 1) os (rest_from net n o os same))

  -- the k-th gate has the k-th gate cover
  pub gates_same : Same (gates_of net) (gate_covers_of (model_of_net m net))
  gates_same = subst (λ (cs : List Cover). Same (gates_of net) cs) (sym gate_covers_are) (from_same 0 net.nodes (all_from_start net))
