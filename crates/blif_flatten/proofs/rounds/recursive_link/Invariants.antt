use Rattle.std.proofs.Common.{◌≡◌, List, drop}
use Rattle.blif_flatten.specs.declared.modules.Module.{Module}
use Rattle.blif_flatten.specs.CallFaults.{first_of}
use Rattle.blif_flatten.specs.Recursion.{recursion_at}
use Rattle.blif_flatten.specs.Inner.Rounds.{AreLeading}
use Rattle.blif_flatten.proofs.rounds.recursive_link.Given as goal

abbrev pub invariant-loop-link : goal.invariant-loop-link
invariant-loop-link l = (modules : List Module) → AreLeading modules l.holder l.leading → first_of (recursion_at modules l.holder) l.links ≡ first_of (recursion_at modules l.holder) (drop l.link-index l.links)
