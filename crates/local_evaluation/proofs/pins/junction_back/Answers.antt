use Rattle.std.proofs.Common.{◌∙◌, sym}
use Rattle.local_evaluation.proofs.Looks.{back_some, back_none, never_other}
use Rattle.local_evaluation.proofs.pins.junction_back.Goals as goal

pub returns-then-others_pass : goal.returns-then-others_pass
returns-then-others_pass c os h = back_some c.args.c c.args.value os c.args.q (never_other c.args.value c.args.c c.if-value-c.false) (sym (c.others_pass.ensures c.args.c os h) ∙ c.if-others_pass.true)

pub returns : goal.returns
returns c os h = back_none c.args.c c.args.value os c.args.q (never_other c.args.value c.args.c c.if-value-c.false) (sym (c.others_pass.ensures c.args.c os h) ∙ c.if-others_pass.false)
