-- Whether a new pin closes a cycle can be told.
use Rattle.std.proofs.Common.{◌≡◌, ℕ, Bool, true, false, ◌↔◌, inl, inr, Some, refl, ◌∙◌, ap}
use Rattle.rm_base.specs.declared.numbers.NodeId.{NodeId}
use Rattle.gate_net.proofs.Public.{after_right, after_there, after_upward}
use Rattle.gate_net.specs.Net.{Net, IsAcyclic}
use Rattle.gate_net.specs.Paths.{Reaches, pin, on}
use Rattle.gate_net.specs.Inner.Paths.{is_after}
use Rattle.wire_edit.specs.declared.steps.Step.TheVariants.{Add}
use Rattle.wire_edit.specs.declared.refusal.EditRefusal.TheVariants.{NoNode, WrongKind}
use Rattle.wire_edit.specs.Tests.{is_live, is_junction}
use Rattle.wire_edit.specs.Refusals.{ClosesCycle}
use Rattle.wire_edit.specs.Inner.Refusals.{IsFault}

path_after : (net : Net) (acyclic : IsAcyclic net) (gate : ℕ) {x y : ℕ} → Reaches net x y → x ≡ gate → is_after (acyclic.0 y) net gate y ≡ true
path_after net acyclic gate {x} {y} (pin p reads) e =
    after_upward net acyclic gate y p x reads (ap (λ z. is_after (acyclic.0 z) net gate z) e ∙ after_there net gate (acyclic.0 gate))
path_after net acyclic gate {x} {y} (on {z = z} p path reads) e = after_upward net acyclic gate y p z reads (path_after net acyclic gate path e)

pub cycle_test : (net : Net) → IsAcyclic net → (gate node : NodeId) → (c : Bool) × ((c ≡ true) ↔ ClosesCycle net (Add gate node))
cycle_test net acyclic gate node = (
  is_after (acyclic.0 node.0) net gate.0 node.0,
  (
    after_right net gate.0 (acyclic.0 node.0) node.0,
    λ closes. elim closes [
      | inl is ↦ ap (λ z. is_after (acyclic.0 z) net gate.0 z) is ∙ after_there net gate.0 (acyclic.0 gate.0)
      | inr path ↦ path_after net acyclic gate.0 path refl
    ],
  ),
)

pub no_gate_fault : (net : Net) (gate node : NodeId) → IsAcyclic net → is_live net gate.0 ≡ false → IsFault net (Add gate node) (Some (NoNode gate))
no_gate_fault net gate node acyclic e = let t : (c : Bool) × _ = cycle_test net acyclic gate node in record { cyclic = t.0; tells = t.1; is = rw e refl }

pub no_node_fault : (net : Net) (gate node : NodeId) → IsAcyclic net → is_live net gate.0 ≡ true → is_live net node.0 ≡ false → IsFault net (Add gate node) (Some (NoNode node))
no_node_fault net gate node acyclic e f = let t : (c : Bool) × _ = cycle_test net acyclic gate node in record { cyclic = t.0; tells = t.1; is = rw (e, f) refl }

pub kind_fault : (net : Net) (gate node : NodeId) → IsAcyclic net → is_live net gate.0 ≡ true → is_live net node.0 ≡ true → is_junction net gate.0 ≡ false → IsFault net (Add gate node) (Some (WrongKind gate))
kind_fault net gate node acyclic e f g = let t : (c : Bool) × _ = cycle_test net acyclic gate node in record { cyclic = t.0; tells = t.1; is = rw (e, f, g) refl }
