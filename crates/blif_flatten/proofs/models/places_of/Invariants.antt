use Rattle.std.proofs.Common.{◌≡◌, ◌++◌, drop}
use Rattle.std.specs.List.{filter_map}
use Rattle.blif_flatten.specs.Sections.{names_place}
use Rattle.blif_flatten.specs.Inner.Tokens.{lines_at}
use Rattle.blif_flatten.proofs.models.places_of.Given as goal

abbrev pub invariant-loop-line : goal.invariant-loop-line
invariant-loop-line l = l.places ++ filter_map names_place (lines_at l.text (drop l.line-index l.body)) ≡ filter_map names_place (lines_at l.text l.body)
