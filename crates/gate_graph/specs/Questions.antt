-- That a question has one proof at most that its pin is there.
use Rattle.std.specs.Prelude.{Some, slice_get}
use Rattle.std.proofs.Common.{sym, ◌∙◌}
use Rattle.std.specs.Coded.{Coded-set, coded_ℕ, coded_option}
use Rattle.std.proofs.lemmas.Option.{same_Some}
use mathlib.Core.HLevel.{Σ_prop_path}
use Rattle.rm_base.specs.declared.numbers.Fault.{Fault}
use Rattle.gate_net.specs.Net.{Net, drivers_of}
use Rattle.gate_net.specs.Values.{HasPin}

-- a pin has one driver
pub HasPin-prop : (net : Net) (fault : Fault) → IsProp (HasPin net fault)
HasPin-prop net fault p q =
    Σ_prop_path (λ x. Coded-set (coded_option coded_ℕ) (slice_get (drivers_of net fault.gate.0) fault.position) (Some x)) (same_Some p.0 q.0 (sym p.1 ∙ q.1))
