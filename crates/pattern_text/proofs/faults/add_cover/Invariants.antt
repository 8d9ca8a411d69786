use Rattle.std.proofs.Common.{◌≡◌, ◌++◌, ◌-◌, length}
use Rattle.model_faults.specs.ModelFaults.{input_faults}
use Rattle.pattern_text.specs.Text.{fault_lines}
use Rattle.pattern_text.proofs.faults.add_cover.Given as goal

abbrev pub invariant-loop-position : goal.invariant-loop-position
invariant-loop-position l = l.text.items ++ fault_lines (input_faults l.cover l.position (length l.cover.inputs - l.position)) l.left ≡ l.initial.text.items ++ fault_lines (input_faults l.cover 0 (length l.cover.inputs)) l.firsts
