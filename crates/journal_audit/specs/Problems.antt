-- Problems of an audit, by where they come from.
use Rattle.rm_base.specs.declared.outside.OutsideFault.{OutsideFault}
use Rattle.rm_base.specs.declared.outside.OutsideFault.TheVariants as outside
use Rattle.journal_audit.specs.declared.problem.AuditProblem.{AuditProblem}
use Rattle.journal_audit.specs.declared.problem.AuditProblem.TheVariants.{Fault, NoMemory}

abbrev pub outside_problem : OutsideFault → AuditProblem
outside_problem outside.Failed = Fault
outside_problem outside.NoMemory = NoMemory
