use Rattle.std.proofs.Common.{◌≡◌, [], map, take, drop, true}
use Rattle.rm_model.specs.WellFormed.{is_distinct}
use Rattle.blif_flatten.specs.LineFaults.{sections_fault}
use Rattle.blif_flatten.specs.CallFaults.{module_name, plain_modules}
use Rattle.blif_flatten.specs.Inner.Tokens.{sections_at}
use Rattle.blif_flatten.proofs.line_faults.check_sections.Given as goal

abbrev pub invariant-loop-section : goal.invariant-loop-section
invariant-loop-section l = (sections_fault [] (sections_at l.text l.sections) ≡ sections_fault l.models (sections_at l.text (drop l.section-index l.sections)))
    × ((l.models ≡ map module_name (plain_modules (sections_at l.text (take l.section-index l.sections)))) × (is_distinct l.models ≡ true))
