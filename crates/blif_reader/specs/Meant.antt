-- What a refusal says, and what a check gives.
use Rattle.std.specs.Prelude.{◌≡◌, Option, None, Some, Result, Ok, Err}
use Rattle.blif_format.specs.declared.refusal.ReadRefusal.{ReadRefusal}
use Rattle.blif_format.specs.declared.refusal.ReadRefusal.TheVariants.{Fault, Limit, NoMemory}

-- a refusal is the first fault, or want of memory
abbrev pub IsRefusal : ReadRefusal → Option ReadRefusal → Type 0
IsRefusal NoMemory first = Unit {0}
IsRefusal (Fault kind place) first = first ≡ Some (Fault kind place)
IsRefusal (Limit quantity count place) first = first ≡ Some (Limit quantity count place)

-- what a check that takes no memory says
abbrev pub refusal_of : {A : Type 0} → Result A ReadRefusal → Option ReadRefusal
refusal_of (Ok a) = None
refusal_of (Err refusal) = Some refusal
