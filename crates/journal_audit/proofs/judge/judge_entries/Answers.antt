use Rattle.std.proofs.Common.{List, subst, sym}
use Rattle.journal_text.specs.declared.record.Entry.{Entry}
use Rattle.journal_audit.specs.Inner.Stages.{GatheredOn, JudgedSome}
use Rattle.journal_audit.proofs.Entering.{gathered_some}
use Rattle.journal_audit.proofs.judge.judge_entries.Goals as goal

pub judge_gathered-requires-clause-judged : goal.judge_gathered-requires-clause-judged
judge_gathered-requires-clause-judged c =
    subst (λ (es : List Entry). JudgedSome c.args.model.now c.args.stage es) (sym c.as_slice.ensures.value)
    (gathered_some c.args.model.now c.args.stage c.in-Ok.gathered.entries.items c.args.reader.now c.gather.new.reader c.in-Ok.gathered.fault c.requires.judged.0 c.in-Ok.ensures c.requires.judged.1)

pub returns-in-Ok-clause-judged : goal.returns-in-Ok-clause-judged
returns-in-Ok-clause-judged c = λ text j.
    (subst (λ (es : List Entry). GatheredOn c.args.model.now c.args.stage es c.in-Ok.gathered.fault c.judge_gathered.result) c.as_slice.ensures.value c.judge_gathered.ensures text c.args.reader.now c.gather.new.reader j c.in-Ok.ensures).0

pub returns-in-Ok-clause-problem : goal.returns-in-Ok-clause-problem
returns-in-Ok-clause-problem c = λ text more j.
    (subst (λ (es : List Entry). GatheredOn c.args.model.now c.args.stage es c.in-Ok.gathered.fault c.judge_gathered.result) c.as_slice.ensures.value c.judge_gathered.ensures text c.args.reader.now c.gather.new.reader j c.in-Ok.ensures).1 more
