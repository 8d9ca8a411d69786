use Rattle.std.proofs.Common.{◌≡◌, drop}
use Rattle.blif_flatten.specs.CallFaults.{users_fault, first_of, plain_modules, section_users_fault}
use Rattle.blif_flatten.specs.Inner.Tokens.{sections_at}
use Rattle.blif_flatten.proofs.drivers.check_users.Given as goal

abbrev pub invariant-loop-section : goal.invariant-loop-section
invariant-loop-section l = users_fault (sections_at l.text l.sections)
    ≡ first_of (section_users_fault (plain_modules (sections_at l.text l.sections))) (sections_at l.text (drop l.section-index l.sections))
