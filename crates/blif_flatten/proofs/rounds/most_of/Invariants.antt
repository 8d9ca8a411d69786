use Rattle.std.proofs.Common.{◌≡◌, drop}
use Rattle.std.specs.Prelude.{max}
use Rattle.blif_flatten.specs.Inner.Rounds.{most}
use Rattle.blif_flatten.proofs.rounds.most_of.Given as goal

abbrev pub invariant-loop-link : goal.invariant-loop-link
invariant-loop-link l = max l.greatest (most l.all (drop l.link-index l.links)) ≡ most l.all l.links
