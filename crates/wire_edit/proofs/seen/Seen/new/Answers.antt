use Rattle.std.proofs.Common.{◌≡◌, false, ap, ◌∙◌, replicate, length}
use Rattle.std.proofs.lemmas.List.{length-replicate}
use Rattle.wire_edit.specs.Inner.Marked.{is_marked}
use Rattle.wire_edit.proofs.Marking.{blank_all}
use Rattle.wire_edit.proofs.seen.Seen.new.Goals as goal

pub invariant_of-result : goal.invariant_of-result
invariant_of-result c =
    let is : c.in_ok-marks.marks.items ≡ replicate c.args.numbers false = c.in_ok-marks.ensures.items_if_clones_equal (λ y e. e) in
    λ k. ap (λ bs. is_marked bs k) is ∙ blank_all c.args.numbers k

pub returns : goal.returns
returns c =
    let is : c.in_ok-marks.marks.items ≡ replicate c.args.numbers false = c.in_ok-marks.ensures.items_if_clones_equal (λ y e. e) in
    ap length is ∙ length-replicate c.args.numbers false
