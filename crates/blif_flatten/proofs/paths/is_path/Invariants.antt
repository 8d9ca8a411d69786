use Rattle.std.proofs.Common.{◌≡◌, drop}
use Rattle.blif_flatten.specs.Inner.Ranks.{goes_along}
use Rattle.blif_flatten.proofs.paths.is_path.Given as goal

abbrev pub invariant-loop-i : goal.invariant-loop-i
invariant-loop-i l = goes_along l.modules l.to l.path ≡ goes_along l.modules l.to (drop l.i l.path)
