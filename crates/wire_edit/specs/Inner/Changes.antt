-- Beside Changes.antt: what only private contracts, invariants and laws speak of.
use Rattle.std.specs.Prelude.{◌≢◌, ℕ, ◌<◌, Bool, Option, Some, None, List, [], ◌∷◌, length, suc}
use Rattle.gate_net.specs.declared.Kind.TheVariants.{Xor}
use Rattle.gate_net.specs.Net.{Node, Net, drivers_of, IsKind, IsLive, IsGate}
use Rattle.gate_net.specs.Values.{IsJunction}
use Rattle.gate_net.specs.Paths.{Reaches}
use Rattle.gate_net.specs.Edits.{IsUnread}
use Rattle.wire_edit.specs.Changes.{Change, append, remove, fix, readers, new_not, retire, to_not}

-- the least number that no live node has
abbrev pub least_free : List (Option Node) → ℕ
least_free [] = 0
least_free (None ∷ os) = 0
least_free (Some n ∷ os) = suc (least_free os)

-- what a change needs, so that the net stays well formed
abbrev pub CanChange : Net → Change → Type 0
CanChange net (append gate driver) =
    ((c : Bool) × IsJunction net gate c) × (IsLive net driver × ((driver ≢ gate) × (Reaches net gate driver → ⊥)))
CanChange net (remove gate position) = ((c : Bool) × IsJunction net gate c) × (position < length (drivers_of net gate))
CanChange net (fix gate position value) = IsGate net gate × (position < length (drivers_of net gate))
CanChange net (readers from to) = IsGate net from × (IsLive net to × ((to ≢ from) × (Reaches net from to → ⊥)))
CanChange net (new_not driver) = IsLive net driver
CanChange net (retire gate) = IsGate net gate × IsUnread net gate
CanChange net (to_not gate position) = IsKind net gate Xor × (position < length (drivers_of net gate))

-- how many pins a change makes
abbrev pub pins_added : Change → ℕ
pins_added (append gate driver) = 1
pins_added (new_not driver) = 1
pins_added _ = 0

-- how many nodes a change makes
abbrev pub nodes_added : Change → ℕ
nodes_added (new_not driver) = 1
nodes_added _ = 0
