use Rattle.std.proofs.Common.{◌≡◌, ◌++◌, drop}
use Rattle.std.specs.List.{filter_map}
use Rattle.blif_flatten.specs.Sections.{latch_in}
use Rattle.blif_flatten.specs.Inner.Tokens.{words_in}
use Rattle.blif_flatten.proofs.models.latches_of.Given as goal

abbrev pub invariant-loop-line : goal.invariant-loop-line
invariant-loop-line l = l.latches ++ filter_map latch_in (words_in l.text (drop l.line-index l.body)) ≡ filter_map latch_in (words_in l.text l.body)
