-- The gates at which a change may give a rule that none had before.
use Rattle.std.specs.Prelude.{◌≡◌, ℕ, ◌<◌, ◌≤◌, true, ◌⊎◌}
use Rattle.gate_net.specs.Net.{Net, Reads}
use Rattle.wire_edit.specs.Tests.{is_not, other_position}
use Rattle.wire_edit.specs.Changes.{Change, append, remove, fix, readers, new_not, retire, to_not, changed}
use Rattle.wire_edit.specs.Inner.Changes.{least_free}

abbrev pub IsReadBy : Net → ℕ → ℕ → Type 0
IsReadBy net x y = (p : ℕ) × Reads net y p x

-- a Not that reads the node
abbrev pub IsNotOf : Net → ℕ → ℕ → Type 0
IsNotOf net x y = (is_not net y ≡ true) × Reads net y 0 x

-- the gate itself, a driver that loses a reader, a reader that moves, Nots that may have a new twin of a lower number, and Nots of a new Not
abbrev pub IsTouched : Net → Change → ℕ → Type 0
IsTouched net (append gate driver) x = x ≡ gate
IsTouched net (remove gate position) x = (x ≡ gate) ⊎ Reads net gate position x
IsTouched net (fix gate position value) x = (x ≡ gate) ⊎ Reads net gate position x
IsTouched net (readers from to) x = (x ≡ from) ⊎ (IsReadBy net from x ⊎ ((1 < to) × (IsNotOf net to x × ((y : ℕ) × IsNotOf net from y))))
IsTouched net (new_not driver) x = (least_free net.nodes ≤ x) × IsNotOf (changed net (new_not driver)) driver x
IsTouched net (retire gate) x = IsReadBy net x gate
IsTouched net (to_not gate position) x =
    (x ≡ gate) ⊎ (Reads net gate position x ⊎ (IsNotOf net gate x ⊎ ((d : ℕ) × ((1 < d) × (Reads net gate (other_position position) d × IsNotOf net d x)))))
