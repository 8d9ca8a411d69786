use Rattle.std.proofs.Common.{ℕ, List, drop}
use Rattle.journal_reading.specs.Streams.{GivesAll, Pending}
use Rattle.journal_audit.specs.Inner.Stages.{IsJudged, JudgedSome}
use Rattle.journal_audit.proofs.Entering.{Onward}
use Rattle.journal_audit.proofs.judge.judge_all.Given as goal

abbrev pub invariant-loop-entry : goal.invariant-loop-entry
invariant-loop-entry l = Onward l.model l.initial.stage l.entries l.stage (drop l.entry-index l.entries) × JudgedSome l.model l.stage (drop l.entry-index l.entries)
