use Rattle.std.proofs.Common.{◌≡◌, ◌++◌, drop}
use Rattle.pattern_text.specs.Text.{chosen, pattern_lines}
use Rattle.pattern_text.proofs.text.add_patterns.Given as goal

abbrev pub invariant-loop-at : goal.invariant-loop-at
invariant-loop-at l = l.text.items ++ pattern_lines l.at (drop l.at (chosen l.vectors l.patterns)) ≡ l.initial.text.items ++ pattern_lines 0 (chosen l.vectors l.patterns)
