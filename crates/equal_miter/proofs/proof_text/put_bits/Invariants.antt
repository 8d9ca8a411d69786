use Rattle.std.proofs.Common.{map, take, ◌++◌, ◌≡◌}
use Rattle.journal_text.specs.Text.{bit}
use Rattle.equal_miter.proofs.proof_text.put_bits.Given as goal

abbrev pub invariant-loop-value : goal.invariant-loop-value
invariant-loop-value l = l.out.items ≡ l.initial.out.items ++ map bit (take l.value-index l.values)
