use Rattle.std.proofs.Common.{◌≡◌, take, drop}
use Rattle.blif_flatten.specs.Calls.{sides_at}
use Rattle.blif_flatten.proofs.Cuts.{behind_first}
use Rattle.blif_flatten.proofs.sides.sides_of.Given as goal

abbrev pub invariant-loop-i : goal.invariant-loop-i
invariant-loop-i l = sides_at l.byte l.word ≡ behind_first (take l.i l.word) (sides_at l.byte (drop l.i l.word))
