use Rattle.std.proofs.Common.{◌<◌, sym, ◌∙◌, arith, length, inl, inr, ap}
use Rattle.std.proofs.lemmas.Bool.{cases_eq}
use Rattle.wire_edit.specs.Inner.Marked.{is_marked}
use Rattle.wire_edit.proofs.Marking.{marked_is}
use Rattle.wire_edit.proofs.worklist.first_mark.Goals as goal

pub returns-then-marks-number : goal.returns-then-marks-number
returns-then-marks-number c =
    let lt : c.loop-number.number < length c.args.marks.now = omega (arith, c.loop-number-test.true, c.requires) in
    (omega arith, (omega (arith, c.loop-number-test.true), (sym (marked_is c.args.marks.now c.loop-number.number _ lt) ∙ c.if-marks-number.true, c.loop-number.invariant)))

pub loop-number-preserved : goal.loop-number-preserved
loop-number-preserved c = λ k le below.
    let lt : c.loop-number.number < length c.args.marks.now = omega (arith, c.loop-number-test.true, c.requires) in
    elim (cases_eq k c.loop-number.number) [
      | inl is ↦ ap (is_marked c.args.marks.now) is ∙ sym (marked_is c.args.marks.now c.loop-number.number _ lt) ∙ c.if-marks-number.false
      | inr ne ↦ c.loop-number.invariant k le (omega (arith, below, ne))
    ]
