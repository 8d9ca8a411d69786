-- The uses of names as the code has them, and the tables of names that are driven.
use Rattle.std.specs.Prelude.{◌≡◌, ◌||◌, Bool, true, false, List, map}
use Rattle.rm_base.specs.Words.{Word}
use Rattle.rm_model.specs.Value.{is_among}
use Rattle.blif_format.specs.declared.words.Role.{Role}
use Rattle.blif_format.specs.declared.words.Role.TheVariants.{ClockInput, CoverOutput, Input, LatchOutput}
use Rattle.blif_format.specs.Uses.{Use, names_in, is_input, is_clock}
use Rattle.blif_flatten.specs.declared.uses.NameUse.{NameUse}
use Rattle.blif_flatten.specs.declared.drivers.Drivers.{Drivers}

abbrev pub use_at : NameUse → Use
use_at u = record { role = u.role; name = u.name.now; place = u.place }

abbrev pub uses_at : List NameUse → List Use
uses_at uses = map use_at uses

abbrev pub names_at : List NameUse → List Word
names_at uses = map (λ (u : NameUse). u.name.now) uses

-- a name that a latch or a cover drives, or a pin
abbrev pub is_inner : Role → Bool
is_inner CoverOutput = true
is_inner LatchOutput = true
is_inner role = false

-- whether a name may not be driven in a role, where it is an input, a clock or inner
abbrev pub clashing : Role → Bool → Bool → Bool → Bool
clashing Input input clock inner = input || inner
clashing ClockInput input clock inner = clock || inner
clashing LatchOutput input clock inner = input || (clock || inner)
clashing CoverOutput input clock inner = input || (clock || inner)
clashing role input clock inner = false

-- whether it may not be driven beside those of the tables
abbrev pub clashes_with : Drivers → Use → Bool
clashes_with d u = clashing u.role (is_among d.inputs u.name) (is_among d.clocks u.name) (is_among d.inner u.name)

-- the tables have the names of these uses
pub record AreDrivers (had : List Use) (d : Drivers) : Type 0 where
  pub inputs : d.inputs ≡ names_in is_input had
  pub clocks : d.clocks ≡ names_in is_clock had
  pub inner : d.inner ≡ names_in is_inner had
