use Rattle.std.proofs.Common.{◌∙◌}
use Rattle.blif_flatten.proofs.Formals.{token-at}
use Rattle.blif_flatten.proofs.Leads.{marks-end, marks-go}
use Rattle.blif_flatten.proofs.lead.marks_of.Goals as goal

pub loop-this-preserved : goal.loop-this-preserved
loop-this-preserved c = record {
  marks = λ t b there. marks-go c.args.uses.now c.loop-this.this-index _ c.loop-this.marks.items c.mark_name.new.marks.items t b (token-at c.args.uses.now c.loop-this.this-index _ c.loop-this-test.true) c.in_ok-mark_name.ensures.marked c.loop-this.invariant.marks there;
  count = c.mark_name.ensures.count ∙ c.loop-this.invariant.count;
}

pub returns-clause-marks : goal.returns-clause-marks
returns-clause-marks c = λ t b there. marks-end c.args.uses.now c.loop-this.this-index t b c.loop-this-test.false (c.loop-this.invariant.marks t b there)
