-- A vector that detects the fault of a miter tells the models apart.
use Rattle.std.proofs.Common.{Bool, List, subst, sym, ◌≡◌}
use Rattle.std.specs.Prelude.{IfSome, None, Option, Some}
use Rattle.cover_decompose.specs.Spelled.{plain_net}
use Rattle.equal_evidence.proofs.Public.{fault_has_pin}
use Rattle.equal_miter.specs.Equal.{AreComparable, DifferBy, SameFunction, models_fault, models_miter}
use Rattle.equal_miter.specs.ModelLaws.{ApartIsNotSame, TestsTellApart}
use Rattle.gate_net.specs.Faults.{IsTest}
use Rattle.gate_net.specs.Net.{IsAcyclic, Net}
use Rattle.gate_net.specs.Values.{HasPin}
use Rattle.rm_base.specs.declared.numbers.Fault.{Fault}
use Rattle.rm_model.specs.declared.parts.Model.{Model}

module _ (m n : Model) (net : Net) (fault : Fault) (is : net ≡ models_miter m n) (stuck : fault ≡ models_fault m n) where
  pub pin_there : HasPin net fault
  pin_there = subst (λ (x : Net). HasPin x fault) (sym is) (subst (λ (f : Fault). HasPin (models_miter m n) f) (sym stuck) (fault_has_pin (plain_net m) (plain_net n)))

  test_there : (bits : List Bool) → IsTest net fault bits → IsTest (models_miter m n) (models_fault m n) bits
  test_there bits t = subst (λ (f : Fault). IsTest (models_miter m n) f bits) stuck (subst (λ (x : Net). IsTest x fault bits) is t)

pub told : TestsTellApart → ApartIsNotSame → (m n : Model) (net : Net) (fault : Fault) → net ≡ models_miter m n → fault ≡ models_fault m n → AreComparable m n → IsAcyclic net
    → (found : Option (List Bool)) → IfSome found (IsTest net fault) → IfSome found (λ bits. DifferBy m n bits × (SameFunction m n → ⊥))
told apart not_both m n net fault is stuck h acyclic None t = t
told apart not_both m n net fault is stuck h acyclic (Some bits) t =
    let d : DifferBy m n bits = apart m n bits h (subst (λ (x : Net). IsAcyclic x) is acyclic) (test_there m n net fault is stuck bits t) in (d, not_both m n bits d)
