use Rattle.implications.proofs.Local.{first_local, line_local}
use Rattle.implications.proofs.laws.lines_are_local.Goals as goal

pub returns-clause-local : goal.returns-clause-local
returns-clause-local c = line_local

pub returns-clause-first : goal.returns-clause-first
returns-clause-first c = first_local
