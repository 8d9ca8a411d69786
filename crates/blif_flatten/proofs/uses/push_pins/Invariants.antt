use Rattle.std.proofs.Common.{◌≡◌, ◌++◌, map, drop}
use Rattle.rm_model.specs.declared.parts.Model.{Model}
use Rattle.blif_flatten.specs.CallFaults.{pin_use}
use Rattle.blif_flatten.specs.Inner.Interfaces.{IsInterface, pins_at}
use Rattle.blif_flatten.specs.Inner.Uses.{uses_at}
use Rattle.blif_flatten.proofs.uses.push_pins.Given as goal

abbrev pub invariant-loop-pin : goal.invariant-loop-pin
invariant-loop-pin l = (m : Model) → IsInterface l.interface m
    → uses_at l.uses.items ++ map (pin_use m) (pins_at l.text (drop l.pin-index l.pins)) ≡ uses_at l.initial.uses.items ++ map (pin_use m) (pins_at l.text l.pins)
