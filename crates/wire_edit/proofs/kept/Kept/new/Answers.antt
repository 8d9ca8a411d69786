use Rattle.std.proofs.Common.{◌≡◌, false, ap, refl, ◌∙◌, replicate, length}
use Rattle.std.proofs.lemmas.List.{length-replicate}
use Rattle.wire_edit.specs.Inner.Marked.{is_marked}
use Rattle.wire_edit.proofs.Marking.{blank_all}
use Rattle.wire_edit.proofs.kept.Kept.new.Goals as goal

pub returns : goal.returns
returns c =
    let is : c.in_ok-marks.marks.items ≡ replicate c.args.numbers false = c.in_ok-marks.ensures.items_if_clones_equal (λ y e. e) in
    (record { plain = refl; apart = refl; blank = λ k. ap (λ bs. is_marked bs k) is ∙ blank_all c.args.numbers k }, ap length is ∙ length-replicate c.args.numbers false)
