-- The covers of the model drive each name once, and every name that is used.
use Rattle.std.proofs.Common.{◌≡◌, ◌≤◌, ◌<◌, ◌+◌, ◌^◌, ℕ, zero, suc, true, List, [], ◌∷◌, ◌++◌, length, refl, sym, ◌∙◌, ap, arith, subst, append_assoc, ◌⊎◌, inl, inr}
use Rattle.std.specs.Prelude.{Option, Some, slice_get}
use Rattle.std.proofs.lemmas.Option.{slice_get_within}
use Rattle.std.proofs.lemmas.Bool.{cases_lt}
use Rattle.rm_model.specs.Value.{source_names, observed_names, outputs_of}
use Rattle.rm_model.specs.WellFormed.{is_distinct, driven_names}
use Rattle.rm_model.specs.declared.parts.Cover.{Cover}
use Rattle.rm_model.specs.declared.parts.Model.{Model}
use Rattle.gate_net.specs.declared.Kind.{Kind}
use Rattle.gate_net.specs.declared.Kind.TheVariants.{Source, Zero, One}
use Rattle.gate_net.specs.Net.{Node, Net, node_at, IsGateKind, plain_node, source_count}
use Rattle.graph_to_model.specs.Names.{node_name}
use Rattle.graph_to_model.specs.NetModel.{gate_covers, model_of_net, covers_of_gates, names_before_copies, covers_of_copies}
use Rattle.graph_to_model.proofs.Named.{gates_told, gate_not_source}
use Rattle.graph_to_model.proofs.Covers.{distinct-append, rest_from, all_from_start, in_gates, in_copies, copies_distinct, copies_in, copy_out, onto_names, place_of, not_had}
use Rattle.rm_base.proofs.Public.{in_left, in_map, in_mapped, in_right, some_is, stands_below}
use Rattle.rm_base.specs.Members.{In}
use Rattle.rm_base.specs.Words.{Word}
use Rattle.rm_model.proofs.Public.{distinct-left}
use Rattle.graph_to_model.specs.Inner.Writable.{IsWritable}
use Rattle.graph_to_model.specs.Inner.Covers.{AreNodesFrom, IsGateCover}

module _ (m : Model) (net : Net) (w : IsWritable m net) where
  -- a gate's number comes after the sources
  no_gate_kind : (x : ℕ) (node : Node) (kind : Kind) → node_at net x ≡ Some node → IsGateKind node.kind → node_at net x ≡ plain_node kind → (IsGateKind kind → ⊥) → ⊥
  no_gate_kind x node kind at gate plain never = never (subst IsGateKind (ap (λ (n : Node). n.kind) (some_is _ _ (sym at ∙ plain))) gate)

  pub gate_number : (x : ℕ) (node : Node) → node_at net x ≡ Some node → IsGateKind node.kind → 2 + length (source_names m) ≤ x
  gate_number zero node at gate = absurd (no_gate_kind 0 node Zero at gate w.formed.constants.zero_is (λ h. h))
  gate_number (suc zero) node at gate = absurd (no_gate_kind 1 node One at gate w.formed.constants.one_is (λ h. h))
  gate_number (suc (suc k)) node at gate = elim (cases_lt k (length (source_names m))) [
    | inl low ↦
        let within : k < source_count net = subst (λ (n : ℕ). k < n) (sym w.fit.sources) low in
        let place : 2 + k ≡ suc (suc k) = omega arith in
        let plain : node_at net (suc (suc k)) ≡ plain_node Source = subst (λ (z : ℕ). node_at net z ≡ plain_node Source) place (w.formed.sources.first k within) in
        absurd (no_gate_kind (suc (suc k)) node Source at gate plain (λ h. h))
    | inr high ↦ omega arith
  ]

  pub cover_number : (x : ℕ) (c : Cover) → IsGateCover m net x c → 2 + length (source_names m) ≤ x
  cover_number x c h = gate_number x h.node h.at h.cover.gate

  -- gate covers with one output are of one gate
  pub one_gate : (x y : ℕ) (c d : Cover) → x < 2 ^ 64 → y < 2 ^ 64 → IsGateCover m net x c → IsGateCover m net y d → c.output ≡ d.output → x ≡ y
  one_gate x y c d lx ly h k e =
      gates_told m net w.fit w.few.names x y (cover_number x c h) (cover_number y d k) lx ly (sym h.cover.out_is ∙ (e ∙ k.cover.out_is))

  later_gates : (n : ℕ) (o : Option Node) (os : List (Option Node)) → AreNodesFrom net n (o ∷ os) → n + suc (length os) < 2 ^ 64 → (c d : Cover) → IsGateCover m net n c → In (gate_covers m net (n + 1) os) d → c.output ≡ d.output → ⊥
  later_gates n o os same small c d h i e =
      let f = in_gates m net (n + 1) os d (rest_from net n o os same) i in
      let one : n ≡ f.0 = one_gate n f.0 c d (omega arith) (omega (arith, f.1.1.0)) h f.1.1.1 e in
      omega (arith, f.1.0)

  gates_distinct : (n : ℕ) (os : List (Option Node)) → AreNodesFrom net n os → n + length os < 2 ^ 64 → is_distinct (outputs_of (gate_covers m net n os)) ≡ true
  gates_distinct n [] same small = refl
  gates_distinct n (o ∷ os) same small =
      onto_names m net n o os same (λ c h i. ((let f = in_map (λ (d : Cover). d.output) (gate_covers m net (n + 1) os) c.output i in later_gates n o os same small c f.0 h f.1.0 (sym f.1.1))))
      (gates_distinct (n + 1) os (rest_from net n o os same) (omega arith))

  pub source_apart : (x : Word) → In (source_names m) x → In (outputs_of (covers_of_gates m net)) x → ⊥
  source_apart x i j =
      let f = in_map (λ (c : Cover). c.output) (covers_of_gates m net) x j in
      let g = in_gates m net 0 net.nodes f.0 (all_from_start net) f.1.0 in
      let at = place_of (source_names m) x i in
      gate_not_source m net w.fit w.few.names g.0 at.0 x (cover_number g.0 f.0 g.1.1.1) at.1 (sym g.1.1.1.cover.out_is ∙ f.1.1)

  copy_apart : (x : Word) → In (names_before_copies m net) x → In (outputs_of (covers_of_copies m net)) x → ⊥
  copy_apart x i j =
      let f = in_map (λ (c : Cover). c.output) (covers_of_copies m net) x j in
      let g = in_copies m net (names_before_copies m net) net.observed (observed_names m) f.0 f.1.0 in
      not_had (names_before_copies m net) g.name g.fresh (subst (In (names_before_copies m net)) (sym (sym (copy_out m net g.node g.name) ∙ (sym (ap (λ (c : Cover). c.output) g.is) ∙ f.1.1))) i)

  pub had_distinct : is_distinct (names_before_copies m net) ≡ true
  had_distinct = distinct-append (source_names m) (outputs_of (covers_of_gates m net)) (distinct-left (source_names m) _ w.well.driven_once)
      (gates_distinct 0 net.nodes (all_from_start net) (let small : length net.nodes < 2 ^ 64 = w.few.nodes in omega arith)) source_apart

  names-append : (cs ds : List Cover) → outputs_of (cs ++ ds) ≡ outputs_of cs ++ outputs_of ds
  names-append [] ds = refl
  names-append (c ∷ cs) ds = ap (λ (xs : List Word). c.output ∷ xs) (names-append cs ds)

  pub driven_are : driven_names (model_of_net m net) ≡ names_before_copies m net ++ outputs_of (covers_of_copies m net)
  driven_are = ap (λ (xs : List Word). source_names m ++ xs) (names-append (covers_of_gates m net) (covers_of_copies m net)) ∙ sym (append_assoc (source_names m) (outputs_of (covers_of_gates m net)) (outputs_of (covers_of_copies m net)))

  pub driven_once : is_distinct (driven_names (model_of_net m net)) ≡ true
  driven_once = subst (λ (xs : List Word). is_distinct xs ≡ true) (sym driven_are)
      (distinct-append (names_before_copies m net) (outputs_of (covers_of_copies m net)) had_distinct (copies_distinct m net (names_before_copies m net) net.observed (observed_names m)) copy_apart)

  -- each observed name is driven
  pub observed_driven : (k : ℕ) (x : Word) → slice_get (observed_names m) k ≡ Some x → In (driven_names (model_of_net m net)) x
  observed_driven k x e = subst (λ (xs : List Word). In xs x) (sym driven_are) (found (copies_in m net (names_before_copies m net) net.observed (observed_names m) node.0 x k node.1 e))
    where
      node : (n : ℕ) × (slice_get net.observed k ≡ Some n)
      node = stands_below net.observed k (subst (λ (n : ℕ). k < n) (sym w.fit.observed) (slice_get_within (observed_names m) k x e))

      found : (In (names_before_copies m net) x ⊎ ((c : Cover) × (In (covers_of_copies m net) c × (c.output ≡ x)))) → In (names_before_copies m net ++ outputs_of (covers_of_copies m net)) x
      found (inl i) = in_left (names_before_copies m net) (outputs_of (covers_of_copies m net)) x i
      found (inr f) = in_right (names_before_copies m net) (outputs_of (covers_of_copies m net)) x (subst (In (outputs_of (covers_of_copies m net))) f.1.1 (in_mapped (λ (c : Cover). c.output) (covers_of_copies m net) f.0 f.1.0))

  -- the name of a source or a gate is driven
  pub gate_driven : (x : ℕ) (c : Cover) → In (covers_of_gates m net) c → IsGateCover m net x c → In (driven_names (model_of_net m net)) (node_name m net x)
  gate_driven x c i h = subst (λ (xs : List Word). In xs (node_name m net x)) (sym driven_are)
      (in_left (names_before_copies m net) (outputs_of (covers_of_copies m net)) _ (in_right (source_names m) (outputs_of (covers_of_gates m net)) _ (subst (In (outputs_of (covers_of_gates m net))) h.cover.out_is (in_mapped (λ (c : Cover). c.output) (covers_of_gates m net) c i))))
