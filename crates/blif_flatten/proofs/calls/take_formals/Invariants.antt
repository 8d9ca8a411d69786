use Rattle.std.proofs.Common.{◌≡◌, [], take, drop}
use Rattle.rm_model.specs.declared.parts.Model.{Model}
use Rattle.blif_flatten.specs.CallFaults.{formals_fault, formals_of}
use Rattle.blif_flatten.specs.Inner.Interfaces.{IsInterface, pins_at}
use Rattle.blif_flatten.proofs.calls.take_formals.Given as goal

abbrev pub invariant-loop-pin : goal.invariant-loop-pin
invariant-loop-pin l = (m : Model) → IsInterface l.interface m
    → (formals_fault m [] (pins_at l.text l.pins) ≡ formals_fault m l.given (pins_at l.text (drop l.pin-index l.pins))) × (l.given ≡ formals_of (pins_at l.text (take l.pin-index l.pins)))
