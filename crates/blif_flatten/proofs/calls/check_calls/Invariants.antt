use Rattle.std.proofs.Common.{◌≡◌, drop}
use Rattle.blif_flatten.specs.CallFaults.{calls_fault, first_of, plain_modules, section_calls_fault}
use Rattle.blif_flatten.specs.Inner.Tokens.{sections_at}
use Rattle.blif_flatten.proofs.calls.check_calls.Given as goal

abbrev pub invariant-loop-section : goal.invariant-loop-section
invariant-loop-section l = calls_fault (sections_at l.text l.sections)
    ≡ first_of (section_calls_fault (plain_modules (sections_at l.text l.sections))) (sections_at l.text (drop l.section-index l.sections))
