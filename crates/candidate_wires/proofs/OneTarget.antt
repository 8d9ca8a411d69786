-- Each target of a net stands once among its targets.
use Rattle.std.proofs.Common.{Bool, None, Option, Some, arith, inl, inr, length, suc, sym, zero, not, ap, ℕ, ◌+◌, ◌≤◌, ◌≡◌}
use Rattle.std.specs.Prelude.{slice_get}
use Rattle.gate_net.specs.Net.{Net, drivers_of}
use Rattle.rm_base.specs.declared.numbers.Fault.{Fault}
use Rattle.wire_edit.specs.Tests.{control_of}
use Rattle.candidate_wires.proofs.Appending.{stands_either}
use Rattle.candidate_wires.proofs.Once.{IsOnce, once_both, once_none}
use Rattle.candidate_wires.specs.Pairs.{faults_from, faults_if, targets_at, targets_from, targets_of}

fault_is : (gate : ℕ) (value : Bool) (p n k : ℕ) (f : Fault) → slice_get (faults_from gate value p n) k ≡ Some f → (f.gate.0 ≡ gate) × (f.position ≡ p + k)
fault_is gate value p zero k f e = absurd (cc)
fault_is gate value p (suc n) zero f e =
    let same : record { gate = record { 0 = gate }; position = p; value = value } ≡ f = cc in
    let at : p ≡ f.position = ap (λ (q : Fault). q.position) same in
    (sym (ap (λ (q : Fault). q.gate.0) same), omega (arith, at))
fault_is gate value p (suc n) (suc k) f e =
    let rest : (f.gate.0 ≡ gate) × (f.position ≡ suc p + k) = fault_is gate value (suc p) n k f e in
    (rest.0, let at = rest.1 in omega (arith, at))

faults_once : (gate : ℕ) (value : Bool) (p n : ℕ) → IsOnce (faults_from gate value p n)
faults_once gate value p n k l f e g =
    let one : f.position ≡ p + k = (fault_is gate value p n k f e).1 in
    let other : f.position ≡ p + l = (fault_is gate value p n l f g).1 in
    omega (arith, one, other)

at_gate : (gate count : ℕ) (o : Option Bool) (k : ℕ) (f : Fault) → slice_get (faults_if gate count o) k ≡ Some f → f.gate.0 ≡ gate
at_gate gate count None k f e = absurd (cc)
at_gate gate count (Some control) k f e = (fault_is gate (not control) 0 count k f e).0

gate_once : (gate count : ℕ) (o : Option Bool) → IsOnce (faults_if gate count o)
gate_once gate count None = once_none
gate_once gate count (Some control) = faults_once gate (not control) 0 count

from_gate : (net : Net) (gate n k : ℕ) (f : Fault) → slice_get (targets_from net gate n) k ≡ Some f → gate ≤ f.gate.0
from_gate net gate zero k f e = absurd (cc)
from_gate net gate (suc n) k f e = elim (stands_either (targets_at net gate) (targets_from net (suc gate) n) k f e) [
  | inl front ↦ let at : f.gate.0 ≡ gate = at_gate gate (length (drivers_of net gate)) (control_of net gate) k f front.1 in omega (arith, at)
  | inr back ↦ let above : suc gate ≤ f.gate.0 = from_gate net (suc gate) n back.0 f back.1.1 in omega (arith, above)
]

from_once : (net : Net) (gate n : ℕ) → IsOnce (targets_from net gate n)
from_once net gate zero = once_none
from_once net gate (suc n) =
    once_both (targets_at net gate) (targets_from net (suc gate) n) (gate_once gate (length (drivers_of net gate)) (control_of net gate)) (from_once net (suc gate) n) (λ k l f e g.
    let at : f.gate.0 ≡ gate = at_gate gate (length (drivers_of net gate)) (control_of net gate) k f e in
    let above : suc gate ≤ f.gate.0 = from_gate net (suc gate) n l f g in
    absurd (omega (arith, at, above)))

pub targets_once : (net : Net) → IsOnce (targets_of net)
targets_once net = from_once net 0 (length net.nodes)
