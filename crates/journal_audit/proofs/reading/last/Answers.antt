use Rattle.std.proofs.Common.{subst}
use Rattle.journal_audit.specs.Inner.Stages.{IsJudged}
use Rattle.journal_audit.proofs.Judged.{cut_off, ended}
use Rattle.journal_audit.proofs.reading.last.Goals as goal

pub returns-in-Err-clause-problem : goal.returns-in-Err-clause-problem
returns-in-Err-clause-problem c = λ m text j. cut_off c.cuts_agree.ensures c.places_tell.ensures m text c.args.reader.now c.args.stage c.in-Err.fault j c.requires.none c.in-Err.ensures.err

pub returns-clause-ends : goal.returns-clause-ends
returns-clause-ends c = λ m text j. ended c.cuts_agree.ensures m text c.args.reader.now c.in-Ended.graph c.in-Ended.tally (subst (IsJudged m text c.args.reader.now) c.in-Ended.is j) c.requires.none
