use Rattle.std.proofs.Common.{take}
use Rattle.blif_flatten.specs.CallFaults.{plain_modules}
use Rattle.blif_flatten.specs.Inner.Interfaces.{AreInterfaces}
use Rattle.blif_flatten.specs.Inner.Tokens.{sections_at}
use Rattle.blif_flatten.proofs.interfaces.interfaces_of.Given as goal

abbrev pub invariant-loop-section : goal.invariant-loop-section
invariant-loop-section l = AreInterfaces l.interfaces.items (plain_modules (sections_at l.text (take l.section-index l.sections)))
