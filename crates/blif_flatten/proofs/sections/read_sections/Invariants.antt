use Rattle.std.proofs.Common.{◌≡◌, length}
use Rattle.blif_flatten.specs.Inner.Tokens.{AreReadTo}
use Rattle.blif_flatten.proofs.sections.read_sections.Given as goal

abbrev pub invariant-lines : goal.invariant-lines
invariant-lines l = (l.reader.text ≡ l.text) × AreReadTo l.text l.reader.rest l.sections.items

abbrev pub decreases-lines : goal.decreases-lines
decreases-lines l = length l.reader.rest
