use Rattle.std.proofs.Common.{◌≡◌, ◌≤◌, ℕ, Some, take}
use Rattle.std.specs.Prelude.{slice_get}
use Rattle.blif_flatten.specs.declared.modules.Link.{Link}
use Rattle.blif_flatten.specs.Inner.Ranks.{number_of}
use Rattle.blif_flatten.proofs.recursion.links_fall.Given as goal

abbrev pub invariant-loop-link : goal.invariant-loop-link
invariant-loop-link l = (j : ℕ) (k : Link) → slice_get (take l.link-index l.links) j ≡ Some k → number_of l.numbers k.called ≤ l.number
