use Rattle.std.proofs.Common.{◌≡◌, drop}
use Rattle.blif_flatten.specs.CallFaults.{drivers_fault, first_of, plain_modules, section_drivers_fault}
use Rattle.blif_flatten.specs.Inner.Tokens.{sections_at}
use Rattle.blif_flatten.proofs.drivers.check_drivers.Given as goal

abbrev pub invariant-loop-section : goal.invariant-loop-section
invariant-loop-section l = drivers_fault (sections_at l.text l.sections)
    ≡ first_of (section_drivers_fault (plain_modules (sections_at l.text l.sections))) (sections_at l.text (drop l.section-index l.sections))
