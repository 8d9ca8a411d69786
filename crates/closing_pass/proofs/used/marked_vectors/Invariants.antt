use Rattle.std.proofs.Common.{◌≡◌, take}
use Rattle.closing_pass.specs.Inner.Used.{marked_of}
use Rattle.closing_pass.proofs.used.marked_vectors.Given as goal

abbrev pub invariant-loop-number : goal.invariant-loop-number
invariant-loop-number l = l.vectors.items ≡ marked_of (take l.number l.marks) (take l.number l.kept)
