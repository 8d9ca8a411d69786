use Rattle.std.proofs.Common.{◌≡◌, ◌++◌, take}
use Rattle.pattern_text.specs.Text.{bits_text}
use Rattle.pattern_text.proofs.lines.add_bits.Given as goal

abbrev pub invariant-loop-at : goal.invariant-loop-at
invariant-loop-at l = l.text.items ≡ l.initial.text.items ++ bits_text (take l.at l.values)
