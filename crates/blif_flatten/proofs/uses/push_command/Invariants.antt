use Rattle.std.proofs.Common.{◌≡◌, ◌++◌, take}
use Rattle.std.specs.List.{filter_map}
use Rattle.blif_format.specs.Uses.{parts_of, use_of}
use Rattle.blif_reader.specs.Lines.{spots_at}
use Rattle.blif_flatten.specs.Inner.Uses.{uses_at}
use Rattle.blif_flatten.proofs.uses.push_command.Given as goal

abbrev pub invariant-loop-i : goal.invariant-loop-i
invariant-loop-i l = uses_at l.uses.items ≡ uses_at l.initial.uses.items ++ filter_map use_of (take l.i (parts_of l.command (spots_at l.text l.words)))
