use Rattle.std.proofs.Common.{◌≡◌, ◌++◌, drop}
use Rattle.pattern_text.specs.Text.{names_text}
use Rattle.pattern_text.proofs.lines.add_names.Given as goal

abbrev pub invariant-loop-at : goal.invariant-loop-at
invariant-loop-at l = l.text.items ++ names_text (drop l.at l.names) ≡ l.initial.text.items ++ names_text l.names
