-- What the word at an index behind a command has to be.
use Rattle.std.specs.Prelude.{◌==◌, ◌+◌, ℕ, zero, suc, if◌then◌else◌}
use Rattle.blif_format.specs.declared.words.Command.{Command}
use Rattle.blif_format.specs.declared.words.Command.TheVariants.{Model, Inputs, Outputs, Clock, Names, Latch, End}
use Rattle.blif_format.specs.declared.words.Role.TheVariants.{Input, ClockInput, Output, CoverInput, CoverOutput, LatchInput, LatchOutput, Control}
use Rattle.blif_format.specs.declared.words.Part.{Part}
use Rattle.blif_format.specs.declared.words.Part.TheVariants.{Title, Name, LatchType, Init, Extra}

abbrev pub latch_part_at : ℕ → ℕ → Part
latch_part_at count zero = Name LatchInput
latch_part_at count (suc zero) = Name LatchOutput
latch_part_at count (suc (suc zero)) = if count == 3 then Init else LatchType
latch_part_at count (suc (suc (suc zero))) = Name Control
latch_part_at count (suc (suc (suc (suc zero)))) = Init
latch_part_at count (suc (suc (suc (suc (suc index))))) = Extra

abbrev pub part_in : Command → ℕ → ℕ → Part
part_in Model count index = if index == 0 then Title else Extra
part_in Inputs count index = Name Input
part_in Outputs count index = Name Output
part_in Clock count index = Name ClockInput
part_in Names count index = if index + 1 == count then Name CoverOutput else Name CoverInput
part_in Latch count index = latch_part_at count index
part_in End count index = Extra
