use Rattle.wire_edit.proofs.FreePins.{tidy_reads_none, all_free, removal_frees}
use Rattle.wire_edit.proofs.Falling.{tidying_removes, fix_takes, fix_applies, fix_falls}
use Rattle.wire_edit.proofs.step_laws.fixes_lower.Goals as goal

pub returns-clause-tidying : goal.returns-clause-tidying
returns-clause-tidying c = tidying_removes

pub returns-clause-removals : goal.returns-clause-removals
returns-clause-removals c = removal_frees

pub returns-clause-fixes : goal.returns-clause-fixes
returns-clause-fixes c = fix_takes

pub returns-clause-tidy : goal.returns-clause-tidy
returns-clause-tidy c = tidy_reads_none

pub returns-clause-all : goal.returns-clause-all
returns-clause-all c = all_free

pub returns-clause-applies : goal.returns-clause-applies
returns-clause-applies c = fix_applies

pub returns-clause-wires : goal.returns-clause-wires
returns-clause-wires c = fix_falls
