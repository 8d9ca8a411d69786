use Rattle.std.proofs.Common.{◌∙◌, ap, sym}
use Rattle.std.specs.Prelude.{Some}
use Rattle.rm_base.proofs.Public.{read_stands}
use Rattle.rm_base.specs.Words.{Word}
use Rattle.sewing.proofs.Marks.{marks-end, marks-go}
use Rattle.sewing.proofs.lead.marks_of.Goals as goal

pub loop-name-preserved : goal.loop-name-preserved
loop-name-preserved c = record {
  marks = λ t b there. marks-go c.args.names.now c.loop-name.name-index c.items.result.now c.loop-name.marks.items c.mark_name.new.marks.items t b (read_stands c.args.names.now c.loop-name.name-index c.name-item.result c.loop-name-test.true c.name-item.is ∙ ap (λ (w : Word). Some w) (sym c.items.ensures)) c.in_ok-mark_name.ensures.marked c.loop-name.invariant.marks there;
  count = c.mark_name.ensures.count ∙ c.loop-name.invariant.count;
}

pub returns-clause-marks : goal.returns-clause-marks
returns-clause-marks c = λ t b there. marks-end c.args.names.now c.loop-name.name-index t b c.loop-name-test.false (c.loop-name.invariant.marks t b there)
