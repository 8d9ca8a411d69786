use Rattle.std.proofs.Common.{◌≡◌, ◌≤◌, ◌+◌, ◌-◌, length, drop}
use Rattle.blif_lines.specs.Layout.{layout_from}
use Rattle.blif_lines.specs.Inner.Cuts.{line_start}
use Rattle.blif_lines.specs.Reading.{pending}
use Rattle.blif_lines.proofs.reader.find_line.Given as goal

abbrev pub invariant-lines : goal.invariant-lines
invariant-lines l = record {
  rest : pending (layout_from l.fn.from.at (line_start l.fn.from.line) (drop l.fn.from.at l.text)) ≡ pending (layout_from l.cursor.at (line_start l.cursor.line) (drop l.cursor.at l.text));
  within : l.cursor.at ≤ length l.text;
  start : l.cursor.start ≡ l.cursor.at;
  number : l.cursor.line ≤ l.cursor.at + 1;
}

abbrev pub decreases-lines : goal.decreases-lines
decreases-lines l = length l.text - l.cursor.at
