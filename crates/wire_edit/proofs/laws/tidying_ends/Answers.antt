use Rattle.wire_edit.proofs.Working.{work_bounded}
use Rattle.wire_edit.proofs.Ending.{tidying_ends, fixes_end, adds_raise, wires_grow}
use Rattle.wire_edit.proofs.laws.tidying_ends.Goals as goal

pub returns-clause-tidying : goal.returns-clause-tidying
returns-clause-tidying c = tidying_ends

pub returns-clause-fixes : goal.returns-clause-fixes
returns-clause-fixes c = fixes_end

pub returns-clause-adds : goal.returns-clause-adds
returns-clause-adds c = adds_raise

pub returns-clause-bounded : goal.returns-clause-bounded
returns-clause-bounded c = work_bounded

pub returns-clause-wires : goal.returns-clause-wires
returns-clause-wires c = wires_grow
