use Rattle.std.proofs.Common.{false, ap, sym, ◌∙◌, arith}
use Rattle.wire_edit.specs.Inner.Marked.{is_marked, marks_left}
use Rattle.wire_edit.proofs.Marking.{set_other_mark, clear_fewer, marked_within}
use Rattle.wire_edit.proofs.Blocks.{block_cleared}
use Rattle.wire_edit.proofs.worklist.Worklist.clear.Goals as goal

pub index_mut-requires : goal.index_mut-requires
index_mut-requires c = let lt = marked_within c.self.inside.marks.items c.args.number (ap (λ bs. is_marked bs c.args.number) c.self.view_is ∙ c.requires) in omega (arith, lt, c.self.inside.marks.ok.0)

pub invariant_of-self : goal.invariant_of-self
invariant_of-self c = block_cleared c.self.inside.marks.items c.self.inside.blocks.items c.args.number c.self.invariant

pub returns-clause-fewer : goal.returns-clause-fewer
returns-clause-fewer c =
    clear_fewer c.self.inside.marks.items c.args.number (ap (λ bs. is_marked bs c.args.number) c.self.view_is ∙ c.requires) ∙ ap marks_left c.self.view_is

pub returns-clause-others : goal.returns-clause-others
returns-clause-others c = λ k e ne.
    ap (λ bs. is_marked bs k) (sym c.self.view_is) ∙ sym (set_other_mark c.self.inside.marks.items c.args.number k false ne) ∙ e
