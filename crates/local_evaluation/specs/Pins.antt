-- What is known of a gate's pins, of which one may be stuck, and what one look at them tells.
use Rattle.std.specs.List.{list_any}
use Rattle.std.specs.Prelude.{Bool, List, None, Option, Some, [], false, if◌then◌else◌, nat_eq, not, slice_get, slice_set, suc, ℕ, ◌<◌, ◌∷◌, ◌≡◌}
use Rattle.local_evaluation.specs.declared.pins.PinScan.{PinScan}
use Rattle.local_evaluation.specs.declared.pins.Stuck.{Stuck}
use Rattle.gate_net.specs.Meaning.{is_known, turned}
use Rattle.rm_base.specs.declared.numbers.Fault.{Fault}

-- the values with one pin stuck
abbrev pub with_stuck : Option Stuck → List (Option Bool) → List (Option Bool)
with_stuck None os = os
with_stuck (Some s) os = slice_set os s.position (Some s.value)

abbrev pub pin_value : Option Stuck → ℕ → Option Bool → Option Bool
pin_value None q o = o
pin_value (Some s) q o = if nat_eq q s.position then Some s.value else o

-- the stuck pin, where the gate has it
abbrev pub stuck_of : Fault → ℕ → Option Stuck
stuck_of fault y = if nat_eq y fault.gate.0 then Some (record { position = fault.position; value = fault.value }) else None

-- the parity turned by one pin more, where both are known
abbrev pub turned_known : Option Bool → Option Bool → Option Bool
turned_known (Some i) (Some b) = Some (turned b i)
turned_known _ _ = None

-- how many fail the test
abbrev pub failing : (Option Bool → Bool) → List (Option Bool) → ℕ
failing test [] = 0
failing test (o ∷ os) = if test o then failing test os else suc (failing test os)

abbrev pub FailsAt : (Option Bool → Bool) → List (Option Bool) → ℕ → Type 0
FailsAt test os k = (o : Option Bool) × ((slice_get os k ≡ Some o) × (test o ≡ false))

-- one look tells whether some pin has c, how many haven't its opposite, and one that hasn't
pub record IsScan (g : PinScan) (c : Bool) (os : List (Option Bool)) : Type 0 where
  pub any : g.any ≡ list_any (is_known c) os
  pub rest : g.rest ≡ failing (is_known (not c)) os
  pub at : 0 < g.rest → FailsAt (is_known (not c)) os g.at

-- each number is below the bound
abbrev pub AreBelow : List ℕ → ℕ → Type 0
AreBelow drivers n = (p x : ℕ) → slice_get drivers p ≡ Some x → x < n
