-- A fault that a vector detects stays open at each depth.
use Rattle.std.proofs.Common.{Option, ℕ}
use Rattle.std.specs.Prelude.{IfSome, None, Some}
use Rattle.std.proofs.Common.{Bool, List}
use Rattle.gate_net.specs.Faults.{IsTest, assigned}
use Rattle.gate_net.specs.Net.{Net}
use Rattle.gate_net.specs.Values.{Detects}
use Rattle.refutation.specs.Detected.{HasOpenSet}
use Rattle.rm_base.specs.declared.numbers.Fault.{Fault}

pub open_of : (net : Net) (fault : Fault) → ((a : ℕ → Bool) → Detects net fault a → (depth : ℕ) → HasOpenSet net fault depth) → (found : Option (List Bool)) → IfSome found (IsTest net fault) → IfSome found (λ _. (depth : ℕ) → HasOpenSet net fault depth)
open_of net fault law None h = tt
open_of net fault law (Some vector) h = law (assigned vector) h.detects
