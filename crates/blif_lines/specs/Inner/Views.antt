-- A reader as the text and the logical lines from its place on.
use Rattle.std.specs.Prelude.{◌≤◌, ◌<◌, ◌+◌, ◌^◌, length, drop}
use Rattle.blif_lines.specs.Layout.{Reading, layout_from}
use Rattle.blif_lines.specs.declared.reader.LineReader.TheInside.{Inside}

abbrev pub reading : Inside → Reading
reading r = record { text = r.text.now; rest = layout_from r.at (record { line = r.line; column = 1 }) (drop r.at r.text.now) }

pub record IsReading (r : Inside) : Type 0 where
  pub within : r.at ≤ length r.text.now
  pub small : length r.text.now < 2 ^ 32
  pub number : r.line ≤ r.at + 1
