use Rattle.std.proofs.Common.{◌≡◌, map, take}
use Rattle.blif_flatten.specs.CallFaults.{plain_modules}
use Rattle.blif_flatten.specs.Instances.{module_of}
use Rattle.blif_flatten.specs.Inner.Tokens.{sections_at}
use Rattle.blif_flatten.proofs.links.modules_of.Given as goal

abbrev pub invariant-loop-section : goal.invariant-loop-section
invariant-loop-section l = l.modules.items ≡ map (module_of (plain_modules (sections_at l.text l.sections))) (sections_at l.text (take l.section-index l.sections))
