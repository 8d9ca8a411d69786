use Rattle.std.proofs.Common.{◌≡◌, ◌≤◌, ◌<◌, ◌+◌, ◌-◌, length, drop, map}
use Rattle.std.specs.Prelude.{All}
use Rattle.blif_lines.specs.Layout.{layout_from}
use Rattle.blif_lines.specs.Inner.Cuts.{place_at, line_start, lines_from, extend}
use Rattle.blif_lines.specs.Reading.{spot_of, IsWithin}
use Rattle.blif_lines.proofs.reader.take_line.Given as goal

abbrev pub invariant-pieces : goal.invariant-pieces
invariant-pieces l = record {
  rest : layout_from l.fn.from.at (line_start l.fn.from.line) (drop l.fn.from.at l.text) ≡ extend (map (spot_of l.text) l.line) (lines_from l.text l.cursor.at (place_at l.cursor.line l.cursor.start l.cursor.at));
  begin : l.fn.from.at ≤ l.cursor.at;
  within : l.cursor.at ≤ length l.text;
  start : l.cursor.start ≤ l.cursor.at;
  started : l.cursor.start < length l.text;
  number : l.cursor.line ≤ l.cursor.start + 1;
  tokens : All (IsWithin l.text) l.line;
}

abbrev pub decreases-pieces : goal.decreases-pieces
decreases-pieces l = length l.text - l.cursor.at
