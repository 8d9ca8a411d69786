use Rattle.std.proofs.Common.{◌≡◌, ◌∙◌, Some, length, slice_get, refl}
use Rattle.std.proofs.lemmas.Option.{slice_get_read}
use Rattle.closing_pass.specs.Inner.Findings.{IsNumbered}
use Rattle.closing_pass.proofs.UsedVectors.{marks_all, marks_more, size_marked}
use Rattle.closing_pass.proofs.used.marks_of.Goals as goal

pub loop-finding-preserved : goal.loop-finding-preserved
loop-finding-preserved c =
    let there : slice_get c.args.found.now c.loop-finding.finding-index ≡ Some c.finding-item.result = slice_get_read c.args.found.now (length c.args.found.now) c.loop-finding.finding-index c.finding-item.result refl c.loop-finding-test.true c.finding-item.is in
    let numbered : IsNumbered (length c.loop-finding.marks.items) c.finding-item.result = rw c.loop-finding.invariant.size (c.requires.numbered c.loop-finding.finding-index c.finding-item.result there) in
    record {
      size = size_marked c.finding-item.result c.loop-finding.marks.items c.mark.new.marks.items c.mark.ensures ∙ c.loop-finding.invariant.size;
      marks = marks_more c.args.found.now c.loop-finding.finding-index c.finding-item.result c.loop-finding.marks.items c.mark.new.marks.items there numbered c.mark.ensures c.loop-finding.invariant.marks;
    }

pub returns-clause-marks : goal.returns-clause-marks
returns-clause-marks c = marks_all c.args.found.now c.loop-finding.finding-index c.loop-finding.marks.items c.loop-finding-test.false c.loop-finding.invariant.marks
