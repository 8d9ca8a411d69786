use Rattle.std.proofs.Common.{◌<◌, List, Bool, true, length, subst, sym, ap, ◌∙◌, arith}
use Rattle.std.proofs.lemmas.List.{get_or_read}
use Rattle.std.specs.Prelude.{slice_set}
use Rattle.wire_edit.specs.Inner.Marked.{is_marked, KeepsMarks}
use Rattle.wire_edit.proofs.Marking.{marked_is, set_marked, set_count, set_keeps}
use Rattle.wire_edit.proofs.Blocks.{block_set}
use Rattle.wire_edit.proofs.worklist.Worklist.mark.Goals as goal

pub invariant_of-self : goal.invariant_of-self
invariant_of-self c = block_set c.self.inside.marks.items c.self.inside.blocks.items c.args.number c.self.invariant (omega (arith, c.if-place-len.false, c.len.ensures, c.self.inside.marks.ok.0))

pub returns-clause-kept : goal.returns-clause-kept
returns-clause-kept c =
    subst (λ (bs : List Bool). KeepsMarks bs (slice_set c.self.inside.marks.items c.args.number true)) c.self.view_is
    (set_keeps c.self.inside.marks.items c.args.number (omega (arith, c.if-place-len.false, c.len.ensures, c.self.inside.marks.ok.0)))

pub returns-clause-marked : goal.returns-clause-marked
returns-clause-marked c = λ lt. set_marked c.self.inside.marks.items c.args.number true (omega (arith, lt, set_count c.self.inside.marks.items c.args.number true))

pub returns-then-index-clause-marked : goal.returns-then-index-clause-marked
returns-then-index-clause-marked c = λ lt.
    let within : c.args.number < length c.self.inside.marks.items = omega (arith, c.if-place-len.false, c.len.ensures, c.self.inside.marks.ok.0) in
    ap (λ (bs : List Bool). is_marked bs c.args.number) (sym c.self.view_is) ∙ sym (marked_is c.self.inside.marks.items c.args.number true within)
    ∙ sym (get_or_read c.self.inside.marks.items c.args.number c.index.result.now within c.index.ensures true) ∙ c.if-index.true
