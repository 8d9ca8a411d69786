-- The changes that constants and repeated drivers make, by cases.
use Rattle.std.proofs.Common.{ℕ, Bool, true, false, Option, Some, None}
use Rattle.std.specs.Prelude.{not, if◌then◌else◌}
use Rattle.gate_net.specs.declared.Family.{Family}
use Rattle.gate_net.specs.declared.Family.TheVariants.{Constant, Input, Junction, Parity}
use Rattle.gate_net.specs.Values.{same_bool}
use Rattle.gate_net.specs.Edits.{constant_node}
use Rattle.wire_edit.specs.Changes.{Change, remove, readers, to_not}
use Rattle.wire_edit.specs.Steps.{constant_change, same_change}

pub constant_cases : (P : Change → Type 0) (gate p other : ℕ) (f : Family) (o : Option Bool) → P (remove gate p) → P (to_not gate p) → ((to : ℕ) → P (readers gate to)) → P (constant_change gate p other f o)
constant_cases P gate p other f None r t m = r
constant_cases P gate p other Input (Some b) r t m = r
constant_cases P gate p other (Constant c) (Some b) r t m = r
constant_cases P gate p other (Junction c) (Some b) r t m = at (same_bool b c)
  where
    at : (s : Bool) → P (if s then readers gate (constant_node c) else remove gate p)
    at true = m (constant_node c)
    at false = r
constant_cases P gate p other (Parity true) (Some b) r t m = m (constant_node (not b))
constant_cases P gate p other (Parity false) (Some true) r t m = t
constant_cases P gate p other (Parity false) (Some false) r t m = m other

pub same_cases : (P : Change → Type 0) (gate p : ℕ) (b : Bool) → P (remove gate p) → P (readers gate (constant_node false)) → P (same_change gate p b)
same_cases P gate p true r m = m
same_cases P gate p false r m = r
