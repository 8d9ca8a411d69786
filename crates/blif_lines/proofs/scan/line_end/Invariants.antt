use Rattle.std.proofs.Common.{◌≡◌, ◌≤◌, ◌+◌, ◌-◌, length, drop}
use Rattle.blif_lines.specs.Inner.Cuts.{front, is_inner}
use Rattle.blif_lines.proofs.scan.line_end.Given as goal

abbrev pub invariant-loop-i : goal.invariant-loop-i
invariant-loop-i l = record {
  within : l.i ≤ length l.text;
  counted : l.at + front is_inner (drop l.at l.text) ≡ l.i + front is_inner (drop l.i l.text);
}

abbrev pub decreases-loop-i : goal.decreases-loop-i
decreases-loop-i l = length l.text - l.i
