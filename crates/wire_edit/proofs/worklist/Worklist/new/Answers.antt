use Rattle.std.proofs.Common.{◌≡◌, ◌+◌, ◌/◌, ap, ◌∙◌, replicate, length, arith}
use Rattle.std.proofs.lemmas.List.{length-replicate}
use Rattle.wire_edit.specs.Inner.Marked.{is_marked}
use Rattle.wire_edit.proofs.Marking.{marked_all}
use Rattle.wire_edit.proofs.Blocks.{all_blocked}
use Rattle.wire_edit.proofs.worklist.Worklist.new.Goals as goal

pub invariant_of-result : goal.invariant_of-result
invariant_of-result c =
    let are : c.in_ok-blocks.blocks.items ≡ replicate (c.args.count / 256 + 1) c.args.marked = c.in_ok-blocks.ensures.items_if_clones_equal (λ y e. e) in
    let is : c.in_ok-marks.marks.items ≡ replicate c.args.count c.args.marked = c.in_ok-marks.ensures.items_if_clones_equal (λ y e. e) in
    let long : length c.in_ok-blocks.blocks.items ≡ c.args.count / 256 + 1 = ap length are ∙ length-replicate (c.args.count / 256 + 1) c.args.marked in
    let count : length c.in_ok-marks.marks.items ≡ c.args.count = ap length is ∙ length-replicate c.args.count c.args.marked in
    all_blocked c.in_ok-marks.marks.items c.in_ok-blocks.blocks.items c.args.count c.args.marked (omega (arith, c.ranges.count.fits)) count long
    (λ k lt. ap (λ bs. is_marked bs k) is ∙ marked_all c.args.marked c.args.count k (omega (arith, lt, count)))
    (λ k lt. ap (λ bs. is_marked bs k) are ∙ marked_all c.args.marked (c.args.count / 256 + 1) k (omega (arith, lt, long)))

pub returns : goal.returns
returns c =
    let is : c.in_ok-marks.marks.items ≡ replicate c.args.count c.args.marked = c.in_ok-marks.ensures.items_if_clones_equal (λ y e. e) in
    (ap length is ∙ length-replicate c.args.count c.args.marked, λ k lt. ap (λ bs. is_marked bs k) is ∙ marked_all c.args.marked c.args.count k lt)
