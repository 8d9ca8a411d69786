-- Entries of undos, the newest first, and the wiring that they lead back to.
use Rattle.std.specs.Prelude.{◌≡◌, ◌≢◌, ℕ, ◌<◌, ◌≤◌, true, List, [], ◌∷◌, length, Some, None}
use Rattle.pin_pool.specs.Pins.{StandsIn}
use Rattle.pin_pool.specs.declared.names.PinNo.{PinNo}
use Rattle.pin_pool.specs.declared.names.Slot.{Slot}
use Rattle.pin_pool.specs.Ring.{without}
use Rattle.gate_graph.specs.declared.undo_list.Undo.{Undo}
use Rattle.gate_graph.specs.declared.undo_list.Undo.TheVariants.{Appended, Removed, Redriven, Moved, Made, Retired, Turned}
use Rattle.pin_pool.specs.Rings.{changed, dropped, relinked, restored, moved_back, IsIn, IsOut}
use Rattle.gate_graph.specs.Wirings.{Wiring, IsWired}
use Rattle.gate_graph.specs.Circuit.{Circuit, wiring}

abbrev pub taken_back : Undo → Wiring → Wiring
taken_back (Appended pin) w = record w { rings = dropped pin.0 w.rings }
taken_back (Removed pin slot) w = record w { rings = relinked pin.0 slot w.rings }
taken_back (Redriven pin slot) w = record w { rings = restored pin.0 slot w.rings }
taken_back (Moved splice) w = record w { rings = moved_back splice w.rings }
taken_back (Made node pin) w = record { kind = changed w.kind node None; rings = dropped pin.0 w.rings }
taken_back (Retired node kind) w = record w { kind = changed w.kind node (Some kind) }
taken_back (Turned pin slot kind) w = record { kind = changed w.kind slot.gate (Some kind); rings = relinked pin.0 slot w.rings }

-- the pin is held, and its place is as it was left
abbrev pub CanRelink : Wiring → PinNo → Slot → Type 0
CanRelink w pin slot =
    (w.rings.taken pin.0 ≡ true) × (IsOut w.rings.inputs pin.0 × (IsOut w.rings.fanouts pin.0 × ((w.kind slot.gate ≢ None) × ((w.kind slot.driver ≢ None)
    × (StandsIn (w.rings.inputs slot.gate) slot.in_gate × StandsIn (w.rings.fanouts slot.driver) slot.in_driver)))))

abbrev pub CanTakeBack : Wiring → Undo → Type 0
CanTakeBack w (Appended pin) = IsIn w.rings.inputs pin.0 × IsIn w.rings.fanouts pin.0
CanTakeBack w (Removed pin slot) = CanRelink w pin slot
CanTakeBack w (Redriven pin slot) =
    IsIn w.rings.inputs pin.0 × (IsIn w.rings.fanouts pin.0 × ((w.kind slot.driver ≢ None) × StandsIn (without pin.0 (w.rings.fanouts slot.driver)) slot.in_driver))
CanTakeBack w (Moved splice) =
    (w.kind splice.from ≢ None) × ((w.kind splice.to ≢ None) × ((splice.from ≢ splice.to) × ((w.rings.fanouts splice.from ≡ []) × (splice.count ≤ length (w.rings.fanouts splice.to)))))
CanTakeBack w (Made node pin) =
    (w.kind node ≢ None) × (IsIn w.rings.inputs pin.0 × IsIn w.rings.fanouts pin.0)
CanTakeBack w (Retired node kind) = w.kind node ≡ None
CanTakeBack w (Turned pin slot kind) = CanRelink w pin slot

-- the wiring to which the entries lead back
abbrev pub back_to : Wiring → List Undo → Wiring
back_to w [] = w
back_to w (e ∷ es) = back_to (taken_back e w) es

-- each entry can be taken back, and this ends at a graph
abbrev pub CanGoBack : Wiring → List Undo → Type 0
CanGoBack w [] = IsWired w
CanGoBack w (e ∷ es) = CanTakeBack w e × CanGoBack (taken_back e w) es

-- the numbers of retired gates have room
abbrev pub IsWithin : ℕ → Undo → Type 0
IsWithin n (Retired node kind) = node < n
IsWithin n _ = Unit {0}

abbrev pub AreWithin : ℕ → List Undo → Type 0
AreWithin n [] = Unit {0}
AreWithin n (e ∷ es) = IsWithin n e × AreWithin n es

-- what led back from the old graph leads back from the new one, to the same wiring
pub record LeadOn (old new : Circuit) (before after : List Undo) : Type 0 where
  pub back : CanGoBack (wiring old) before → CanGoBack (wiring new) after
  pub to : back_to (wiring new) after ≡ back_to (wiring old) before
  pub within : AreWithin (length old.kinds) before → AreWithin (length new.kinds) after
