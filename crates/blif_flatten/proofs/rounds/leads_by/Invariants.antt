use Rattle.std.proofs.Common.{◌≡◌, drop}
use Rattle.blif_flatten.specs.Inner.Rounds.{leads_on}
use Rattle.blif_flatten.proofs.rounds.leads_by.Given as goal

abbrev pub invariant-loop-link : goal.invariant-loop-link
invariant-loop-link l = leads_on l.leading l.to l.links ≡ leads_on l.leading l.to (drop l.link-index l.links)
