-- A place in the list of a gate that is kept.
use Rattle.std.specs.Prelude.{◌≡◌, Option, Some, None, slice_get}
use Rattle.pin_pool.specs.Pins.{Pins, list_of}
use Rattle.pin_pool.specs.declared.finger.Finger.{Finger}

-- the pin stands there
abbrev pub IsThere : Pins → Finger → Type 0
IsThere v f = slice_get (list_of v.inputs f.gate) f.position ≡ Some f.pin.0

-- so does the one that is kept, if one is
abbrev pub IsPointed : Pins → Option Finger → Type 0
IsPointed v None = Unit {0}
IsPointed v (Some f) = IsThere v f
