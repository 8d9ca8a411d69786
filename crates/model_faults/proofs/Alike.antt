-- The faults of a tidy net and of its model, in the same order.
use Rattle.std.proofs.Common.{◌≡◌, ◌+◌, ◌-◌, ◌<◌, ◌≤◌, ℕ, zero, suc, Bool, true, false, List, [], ◌∷◌, ◌++◌, length, refl, sym, ◌∙◌, ap, arith, subst, inl, inr, map}
use Rattle.std.specs.Prelude.{Option, None, Some, slice_get, if◌then◌else◌}
use Rattle.rm_model.specs.declared.parts.Cover.{Cover}
use Rattle.rm_model.specs.declared.parts.Model.{Model}
use Rattle.rm_base.specs.declared.numbers.Fault.{Fault}
use Rattle.gate_net.specs.declared.Kind.{Kind}
use Rattle.gate_net.specs.declared.Kind.TheVariants.{Source, Zero, One}
use Rattle.gate_net.specs.Faults.{fault_at, faults_from, faults_of, is_gate_kind, pin_faults}
use Rattle.gate_net.specs.Net.{IsGateKind, IsWellFormed, Net, Node, drivers_in, drivers_of, node_at, plain_node, source_count}
use Rattle.graph_to_model.proofs.Public.{all_from_start, cover_made, cover_of, first_from, rest_from}
use Rattle.graph_to_model.specs.Inner.Covers.{AreNodesFrom, IsGateCover}
use Rattle.graph_to_model.specs.Inner.Writable.{IsWritable}
use Rattle.graph_to_model.specs.Names.{node_name}
use Rattle.graph_to_model.specs.NetModel.{covers_of_gates, gate_cover, gate_covers, model_of_net, onto}
use Rattle.model_faults.specs.Laws.{IsSameFault, ListAlike}
use Rattle.model_faults.specs.ModelFaults.{ModelFault, faults_of_covers, faults_of_model, gate_covers_of, input_fault, input_faults}
use Rattle.model_faults.proofs.Gates.{gate_covers_are, gate_kind, gate_pins, kind_gate}
use Rattle.model_faults.proofs.Same.{to_model, to_net}
use Rattle.rm_base.proofs.Public.{some_is}
use Rattle.rm_base.specs.Members.{In}

-- a node that is no gate has no pins
plain_drivers : (net : Net) → IsWellFormed net → (x : ℕ) (kind : Kind) (ds : List ℕ) → node_at net x ≡ Some (record { kind = kind; drivers = ds }) → (IsGateKind kind → ⊥) → ds ≡ []
plain_drivers net well x Source ds is k =
    let at : (2 ≤ x) × (x < 2 + source_count net) = well.sources.only x (ds, is) in
    let same : 2 + (x - 2) ≡ x = omega (arith, at.0) in
    let here : node_at net x ≡ plain_node Source = rw same at (well.sources.first (x - 2) (omega (arith, at.0, at.1))) in
    ap drivers_in (sym is ∙ here)
plain_drivers net well x Zero ds is k = let e : x ≡ 0 = well.only_zero x (ds, is) in ap drivers_in (sym is ∙ ap (node_at net) e ∙ well.constants.zero_is)
plain_drivers net well x One ds is k = let e : x ≡ 1 = well.only_one x (ds, is) in ap drivers_in (sym is ∙ ap (node_at net) e ∙ well.constants.one_is)
plain_drivers net well x kind ds is k = absurd (k tt)

module _ (m : Model) (net : Net) (w : IsWritable m net) where
  -- the cover is that of the fault's gate
  record IsAlike (fault : Fault) (own : ModelFault) : Type 0 where
    pub gate : ℕ
    pub of : IsGateCover m net gate own.cover
    pub among : In (covers_of_gates m net) own.cover
    pub is : fault ≡ fault_at gate own.position own.value

  abbrev AreAlike : List Fault → List ModelFault → Type 0
  AreAlike [] [] = Unit {0}
  AreAlike [] (g ∷ gs) = ⊥
  AreAlike (f ∷ fs) [] = ⊥
  AreAlike (f ∷ fs) (g ∷ gs) = IsAlike f g × AreAlike fs gs

  alike_append : (fs hs : List Fault) (gs is : List ModelFault) → AreAlike fs gs → AreAlike hs is → AreAlike (fs ++ hs) (gs ++ is)
  alike_append [] hs [] is a b = b
  alike_append [] hs (g ∷ gs) is a b = absurd a
  alike_append (f ∷ fs) hs [] is a b = absurd a
  alike_append (f ∷ fs) hs (g ∷ gs) is a b = (a.0, alike_append fs hs gs is a.1 b)

  alike_pins : (x : ℕ) (c : Cover) → IsGateCover m net x c → In (covers_of_gates m net) c → (position count : ℕ) → AreAlike (pin_faults x position count) (input_faults c position count)
  alike_pins x c of among position zero = tt
  alike_pins x c of among position (suc count) =
      (record { gate = x; of = of; among = among; is = refl }, (record { gate = x; of = of; among = among; is = refl }, alike_pins x c of among (suc position) count))

  -- no gate, no pins
  no_pins : (n : ℕ) (node : Node) → node_at net n ≡ Some node → is_gate_kind node.kind ≡ false → node.drivers ≡ []
  no_pins n node at e = plain_drivers net w.formed n node.kind node.drivers at (λ gate. (let yes : is_gate_kind node.kind ≡ true = gate_kind node.kind gate in let bad : true ≡ false = sym yes ∙ e in cc))

  alike_node : (n : ℕ) (o : Option Node) (fs : List Fault) (cs : List Cover) → node_at net n ≡ o → ((c : Cover) → In (onto (gate_cover m net n o) cs) c → In (covers_of_gates m net) c)
      → AreAlike fs (faults_of_covers cs) → AreAlike (pin_faults n 0 (length (drivers_in o)) ++ fs) (faults_of_covers (onto (gate_cover m net n o) cs))
  alike_node n None fs cs at among same = same
  alike_node n (Some node) fs cs at among same = by_test (is_gate_kind node.kind) refl (gate_cover m net n (Some node)) refl
    where
      by_test : (b : Bool) → is_gate_kind node.kind ≡ b → (d : Option Cover) → gate_cover m net n (Some node) ≡ d → AreAlike (pin_faults n 0 (length node.drivers) ++ fs) (faults_of_covers (onto d cs))
      by_test true e None f =
          let made = cover_made node.kind (map (node_name m net) node.drivers) (node_name m net n) (kind_gate node.kind e) in
          absurd (let bad : None ≡ Some made.0 = sym f ∙ made.1 in cc)
      by_test true e (Some c) f =
          let of : IsGateCover m net n c = record { node = node; at = at; cover = cover_of node.kind (map (node_name m net) node.drivers) (node_name m net n) c f } in
          let own : length (drivers_of net n) ≡ length node.drivers = rw at refl in
          let pins : length c.inputs ≡ length node.drivers = gate_pins m net w n c of ∙ own in
          let listed : In (covers_of_gates m net) c = among c (subst (λ (d : Option Cover). In (onto d cs) c) (sym f) (inl refl)) in
          alike_append (pin_faults n 0 (length node.drivers)) fs (input_faults c 0 (length c.inputs)) (faults_of_covers cs)
          (subst (λ (k : ℕ). AreAlike (pin_faults n 0 (length node.drivers)) (input_faults c 0 k)) (sym pins) (alike_pins n c of listed 0 (length node.drivers))) same
      by_test false e None f = subst (λ (k : ℕ). AreAlike (pin_faults n 0 k ++ fs) (faults_of_covers cs)) (sym (ap (λ (ds : List ℕ). length ds) (no_pins n node at e))) same
      by_test false e (Some c) f =
          let h = cover_of node.kind (map (node_name m net) node.drivers) (node_name m net n) c f in
          absurd (let bad : true ≡ false = sym (gate_kind node.kind h.gate) ∙ e in cc)

  later_in : (d : Option Cover) (cs : List Cover) (c : Cover) → In cs c → In (onto d cs) c
  later_in None cs c i = i
  later_in (Some d) cs c i = inr i

  alike_from : (n : ℕ) (os : List (Option Node)) → AreNodesFrom net n os → ((c : Cover) → In (gate_covers m net n os) c → In (covers_of_gates m net) c) → AreAlike (faults_from n os) (faults_of_covers (gate_covers m net n os))
  alike_from n [] same among = tt
  alike_from n (o ∷ os) same among =
      let next : n + 1 ≡ suc n = omega arith in
      let rest : AreAlike (faults_from (n + 1) os) (faults_of_covers (gate_covers m net (n + 1) os)) = alike_from (n + 1) os (rest_from net n o os same) (λ c i. among c (later_in (gate_cover m net n o) (gate_covers m net (n + 1) os) c i)) in
      alike_node n o (faults_from (suc n) os) (gate_covers m net (n + 1) os) (first_from net n o os same) among (subst (λ (k : ℕ). AreAlike (faults_from k os) (faults_of_covers (gate_covers m net (n + 1) os))) next rest)

  alike : AreAlike (faults_of net) (faults_of_model (model_of_net m net))
  alike = subst (λ (cs : List Cover). AreAlike (faults_of net) (faults_of_covers cs)) (sym (gate_covers_are m net w)) (alike_from 0 net.nodes (all_from_start net) (λ c i. i))

  alike_count : (fs : List Fault) (gs : List ModelFault) → AreAlike fs gs → length gs ≡ length fs
  alike_count [] [] a = refl
  alike_count [] (g ∷ gs) a = absurd a
  alike_count (f ∷ fs) [] a = absurd a
  alike_count (f ∷ fs) (g ∷ gs) a = ap suc (alike_count fs gs a.1)

  alike_at : (fs : List Fault) (gs : List ModelFault) (j : ℕ) (f : Fault) (g : ModelFault) → AreAlike fs gs → slice_get fs j ≡ Some f → slice_get gs j ≡ Some g → IsAlike f g
  alike_at [] gs zero f g a e h = absurd (cc)
  alike_at [] gs (suc j) f g a e h = absurd (cc)
  alike_at (x ∷ fs) [] j f g a e h = absurd a
  alike_at (x ∷ fs) (y ∷ gs) zero f g a e h = subst (λ (z : ModelFault). IsAlike f z) (some_is y g h) (subst (λ (z : Fault). IsAlike z y) (some_is x f e) a.0)
  alike_at (x ∷ fs) (y ∷ gs) (suc j) f g a e h = alike_at fs gs j f g a.1 e h

  same_fault : (f : Fault) (g : ModelFault) → IsAlike f g → IsSameFault net (model_of_net m net) f g
  same_fault f g a = subst (λ (h : Fault). IsSameFault net (model_of_net m net) h g) (sym a.is) (record {
    to_model = λ b vector count gives. to_model m net w a.gate g.cover a.among a.of g.position g.value b vector gives count;
    to_net = λ b vector gives. to_net m net w a.gate g.cover a.among a.of g.position g.value b vector gives;
  })

  pub list_alike : ListAlike net (model_of_net m net)
  list_alike = record {
    count = alike_count (faults_of net) (faults_of_model (model_of_net m net)) alike;
    each = λ j f g e h. same_fault f g (alike_at (faults_of net) (faults_of_model (model_of_net m net)) j f g alike e h);
  }
