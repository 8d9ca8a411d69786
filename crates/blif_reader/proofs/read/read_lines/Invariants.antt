use Rattle.std.proofs.Common.{◌≡◌, length}
use Rattle.blif_reader.specs.Inner.Progress.{Progress}
use Rattle.blif_reader.proofs.read.read_lines.Given as goal

abbrev pub invariant-lines : goal.invariant-lines
invariant-lines l = record {
  text : l.reader.text ≡ l.text;
  progress : Progress l.text l.reader.rest l.lines.checker l.lines.draft l.lines.places.items;
}

abbrev pub decreases-lines : goal.decreases-lines
decreases-lines l = length l.reader.rest
