-- Another gate in the place of one, or other drivers, leave the net well formed.
use Rattle.std.proofs.Common.{◌≡◌, ◌≢◌, ℕ, ◌+◌, inl, inr, Some, None, List, [], ◌∷◌, subst, sym, ◌∙◌, ap, arith}
use Rattle.std.specs.Prelude.{slice_get}
use Rattle.std.specs.List.{sum_by}
use Rattle.std.proofs.lemmas.Bool.Decides.{eqb_tells}
use Rattle.gate_net.proofs.Public.{flatten_some, redriven_node, with_node-other, with_node-there}
use Rattle.gate_net.specs.declared.Kind.{Kind}
use Rattle.gate_net.specs.declared.Kind.TheVariants.{Zero, One, Not, Xor}
use Rattle.gate_net.specs.Net.{Node, Net, node_at, drivers_in, drivers_of, Reads, IsKind, IsGate, IsGateKind, IsAcyclic, IsWellFormed, plain_node, source_in, source_count}
use Rattle.gate_net.specs.Edits.{with_drivers, with_node}
use Rattle.wire_edit.proofs.Conditions.{same_kind}
use Rattle.wire_edit.proofs.Totals.{total_node}
use Rattle.wire_edit.proofs.Canonical.{canonical_set}
use Rattle.wire_edit.proofs.Plain.{some_none, source_weight, gate_weight, KeepsPlain, plain_constants, plain_sources}

module _ (net : Net) (gate : ℕ) (new : Node) (well : IsWellFormed net) (g : IsGate net gate) (k' : IsGateKind new.kind) where
  abbrev node : Node
  node = record { kind = g.0; drivers = g.1.0.0 }

  abbrev after : Net
  after = with_node net gate new

  there : node_at after gate ≡ Some new
  there = with_node-there net gate new node g.1.0.1

  gate_kind : (kind : Kind) → IsKind net gate kind → IsGateKind kind
  gate_kind kind is = let e : g.0 ≡ kind = same_kind net gate g.0 kind g.1.0 is in rw e at g.1.1

  keeps : KeepsPlain net after
  keeps = record { forth = forth; back = back; count = count }
    where
      forth : (x : ℕ) (kind : Kind) → node_at net x ≡ plain_node kind → (IsGateKind kind → ⊥) → node_at after x ≡ plain_node kind
      forth x kind is k = elim (eqb_tells x gate) [
        | inl t ↦ absurd (k (gate_kind kind ([], rw t.1 at is)))
        | inr t ↦ with_node-other net gate new x t.1 ∙ is
      ]

      back : (x : ℕ) (kind : Kind) → IsKind after x kind → (IsGateKind kind → ⊥) → IsKind net x kind
      back x kind is k = elim (eqb_tells x gate) [
        | inl t ↦
            let here : IsKind after gate kind = rw t.1 at is in
            let e : new.kind ≡ kind = same_kind after gate new.kind kind (new.drivers, there) here in absurd (k (rw e at k'))
        | inr t ↦ (is.0, sym (with_node-other net gate new x t.1) ∙ is.1)
      ]

      count : source_count after ≡ source_count net
      count =
          let total : sum_by source_weight after.nodes + source_weight (Some node) ≡ sum_by source_weight net.nodes + source_weight (Some new) = total_node source_weight net gate new node g.1.0.1 in
          let none : source_in g.0 ≡ 0 = gate_weight g.0 g.1.1 in
          let none' : source_in new.kind ≡ 0 = gate_weight new.kind k' in
          omega arith

  live_after : (x : ℕ) → node_at net x ≢ None → node_at after x ≢ None
  live_after x live e = elim (eqb_tells x gate) [
    | inl t ↦ let here : node_at after gate ≡ None = rw t.1 at e in some_none (sym there ∙ here)
    | inr t ↦ live (sym (with_node-other net gate new x t.1) ∙ e)
  ]

  pub node_formed : IsAcyclic after → ((p x : ℕ) → slice_get new.drivers p ≡ Some x → node_at net x ≢ None) → (new.kind ≡ Not → (d : ℕ) × (new.drivers ≡ d ∷ [])) → (new.kind ≡ Xor → (d e : ℕ) × (new.drivers ≡ d ∷ e ∷ [])) → IsWellFormed after
  node_formed acyclic live one two = record {
    acyclic = acyclic;
    constants = plain_constants net after well keeps;
    only_zero = λ x is. well.only_zero x (keeps.back x Zero is (λ e. e));
    only_one = λ x is. well.only_one x (keeps.back x One is (λ e. e));
    sources = plain_sources net after well keeps;
    nots_have_one = nots;
    xors_have_two = xors;
    drivers_live = drivers;
    observed_live = λ x o. live_after x (well.observed_live x o);
    canonical = canonical_set net.nodes gate node new well.canonical (flatten_some (slice_get net.nodes gate) node g.1.0.1);
  }
    where
      nots : (y : ℕ) → IsKind after y Not → (d : ℕ) × (drivers_of after y ≡ d ∷ [])
      nots y is = elim (eqb_tells y gate) [
        | inl t ↦
            let here : IsKind after gate Not = rw t.1 at is in
            let d : (d : ℕ) × (new.drivers ≡ d ∷ []) = one (same_kind after gate new.kind Not (new.drivers, there) here) in
            (d.0, ap (drivers_of after) t.1 ∙ ap drivers_in there ∙ d.1)
        | inr t ↦
            let d : (d : ℕ) × (drivers_of net y ≡ d ∷ []) = well.nots_have_one y (is.0, sym (with_node-other net gate new y t.1) ∙ is.1) in
            (d.0, ap drivers_in (with_node-other net gate new y t.1) ∙ d.1)
      ]

      xors : (y : ℕ) → IsKind after y Xor → (d e : ℕ) × (drivers_of after y ≡ d ∷ e ∷ [])
      xors y is = elim (eqb_tells y gate) [
        | inl t ↦
            let here : IsKind after gate Xor = rw t.1 at is in
            let d = two (same_kind after gate new.kind Xor (new.drivers, there) here) in
            (d.0, d.1, ap (drivers_of after) t.1 ∙ ap drivers_in there ∙ d.2)
        | inr t ↦
            let d = well.xors_have_two y (is.0, sym (with_node-other net gate new y t.1) ∙ is.1) in
            (d.0, d.1, ap drivers_in (with_node-other net gate new y t.1) ∙ d.2)
      ]

      drivers : (y p x : ℕ) → Reads after y p x → node_at after x ≢ None
      drivers y p x reads = elim (eqb_tells y gate) [
        | inl t ↦ let here : Reads after gate p x = rw t.1 at reads in live_after x (live p x (ap (λ es. slice_get es p) (sym (ap drivers_in there)) ∙ here))
        | inr t ↦ live_after x (well.drivers_live y p x (ap (λ o. slice_get (drivers_in o) p) (sym (with_node-other net gate new y t.1)) ∙ reads))
      ]

-- a gate with other drivers
pub with_formed : (net : Net) (gate : ℕ) (ds : List ℕ) → IsWellFormed net → (g : IsGate net gate) → IsAcyclic (with_drivers net gate ds) → ((p x : ℕ) → slice_get ds p ≡ Some x → node_at net x ≢ None) → (g.0 ≡ Not → (d : ℕ) × (ds ≡ d ∷ [])) → (g.0 ≡ Xor → (d e : ℕ) × (ds ≡ d ∷ e ∷ [])) → IsWellFormed (with_drivers net gate ds)
with_formed net gate ds well g acyclic live one two =
    let same = redriven_node net gate ds (record { kind = g.0; drivers = g.1.0.0 }) g.1.0.1 in
    subst (λ (n : Net). IsWellFormed n) (sym same) (node_formed net gate (record { kind = g.0; drivers = ds }) well g g.1.1 (subst (λ (n : Net). IsAcyclic n) same acyclic) live one two)
