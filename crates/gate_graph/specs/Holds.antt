-- The pins that undos hold.
use Rattle.std.specs.Prelude.{◌≡◌, ℕ, suc, ◌+◌, ◌-◌, List, [], ◌∷◌, ◌++◌, length}
use Rattle.gate_net.specs.Net.{wire_count}
use Rattle.gate_graph.specs.declared.undo_list.Undo.{Undo}
use Rattle.gate_graph.specs.declared.undo_list.Undo.TheVariants.{Appended, Removed, Made, Turned}
use Rattle.gate_graph.specs.Circuit.{Circuit, net_of, pins_taken}

abbrev pub held_by : Undo → List ℕ
held_by (Removed pin slot) = pin.0 ∷ []
held_by (Turned pin slot kind) = pin.0 ∷ []
held_by _ = []

abbrev pub held : List Undo → List ℕ
held [] = []
held (e ∷ es) = held_by e ++ held es

-- how many pins undos hold
abbrev pub pins_held : Circuit → ℕ
pins_held v = pins_taken v - (wire_count (net_of v) + length (net_of v).observed)

-- the pins that are held beside those of the entries stay as many
abbrev pub HoldsOn : Circuit → Circuit → List Undo → List Undo → Type 0
HoldsOn v w es fs = pins_held w + length (held es) ≡ pins_held v + length (held fs)

-- how many pins the entries made, which are free again once these are undone
abbrev pub pins_made : List Undo → ℕ
pins_made [] = 0
pins_made (Appended pin ∷ es) = suc (pins_made es)
pins_made (Made node pin ∷ es) = suc (pins_made es)
pins_made (_ ∷ es) = pins_made es
