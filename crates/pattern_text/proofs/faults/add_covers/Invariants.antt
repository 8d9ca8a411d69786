use Rattle.std.proofs.Common.{◌≡◌, ◌++◌, drop}
use Rattle.pattern_text.specs.Text.{fault_lines}
use Rattle.pattern_text.proofs.FaultLines.{gates}
use Rattle.pattern_text.proofs.faults.add_covers.Given as goal

abbrev pub invariant-loop-at : goal.invariant-loop-at
invariant-loop-at l = l.text.items ++ fault_lines (gates (drop l.at l.covers)) l.left ≡ l.initial.text.items ++ fault_lines (gates l.covers) l.firsts
