use Rattle.std.proofs.Common.{◌<◌, inl, inr, ap, ◌∙◌, true, set, length, arith}
use Rattle.std.proofs.lemmas.Bool.{cases_eq}
use Rattle.wire_edit.specs.Inner.Marked.{is_marked}
use Rattle.wire_edit.proofs.Marking.{set_marked, set_other_mark, set_count}
use Rattle.wire_edit.proofs.worklist.set_all.Goals as goal

pub loop-place-preserved : goal.loop-place-preserved
loop-place-preserved c =
    let i = c.loop-place.invariant in
    let marks = c.loop-place.marks.items in
    let place = c.loop-place.place in
    record {
      count = set_count marks place true ∙ i.count;
      all = λ k lt. elim (cases_eq k place) [
        | inl is ↦ ap (is_marked (set marks place true)) is ∙ set_marked marks place true (let lt : place < length marks = omega (arith, c.loop-place-test.true, c.loop-place.auto.place-end, i.count) in lt)
        | inr ne ↦ set_other_mark marks place k true ne ∙ i.all k (omega (arith, lt, ne))
      ];
    }
