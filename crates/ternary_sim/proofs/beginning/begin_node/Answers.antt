use Rattle.std.proofs.Common.{[], List, ap, length, length-set, ◌++◌, ◌∙◌, ◌∷◌}
use Rattle.std.specs.Prelude.{slice_set}
use Rattle.ternary_sim.proofs.Beginnings.{begun_more}
use Rattle.ternary_sim.proofs.TrailMarks.{before_rewritten, first_rewritten, inside_had}
use Rattle.ternary_sim.proofs.beginning.begin_node.Goals as goal
use Rattle.ternary_sim.specs.Marks.{no_marks}
use Rattle.ternary_sim.specs.Inner.Settling.{touched_marks}
use Rattle.ternary_sim.specs.ValueTables.{TableState}
use Rattle.ternary_sim.specs.Inner.Tracking.{first_marks, marks_before}
use Rattle.ternary_sim.specs.declared.marks.NodeMarks.{NodeMarks}
use Rattle.ternary_sim.specs.declared.trail.Saved.{Saved}
use Rattle.ternary_sim.specs.declared.trail.Saved.TheVariants.{Had}

pub returns-clause-begun : goal.returns-clause-begun
returns-clause-begun c base begun =
    rw (c.write.ensures, c.add.ensures, c.at-had.ensures)
    (begun_more base c.args.table.now.marks c.args.worklist.now c.args.node.0 c.requires.marks c.requires.worklist begun)

pub returns-clause-before : goal.returns-clause-before
returns-clause-before c =
    ap (λ (s : TableState). marks_before s.marks c.push.new.self.items) c.write.ensures
    ∙ ap (λ (es : List Saved). marks_before (slice_set c.args.table.now.marks c.args.node.0 (touched_marks c.at-had.result.good)) es) c.in_ok-push.ensures.items
    ∙ ap (λ (m : NodeMarks). marks_before (slice_set c.args.table.now.marks c.args.node.0 (touched_marks c.at-had.result.good)) (c.args.trail.now.items ++ Had c.args.node m ∷ [])) c.at-had.ensures
    ∙ before_rewritten c.args.table.now.marks c.args.trail.now.items c.args.node (touched_marks c.at-had.result.good) no_marks

pub returns-clause-first : goal.returns-clause-first
returns-clause-first c =
    ap (λ (s : TableState). first_marks s.marks c.push.new.self.items) c.write.ensures
    ∙ ap (λ (es : List Saved). first_marks (slice_set c.args.table.now.marks c.args.node.0 (touched_marks c.at-had.result.good)) es) c.in_ok-push.ensures.items
    ∙ ap (λ (m : NodeMarks). first_marks (slice_set c.args.table.now.marks c.args.node.0 (touched_marks c.at-had.result.good)) (c.args.trail.now.items ++ Had c.args.node m ∷ [])) c.at-had.ensures
    ∙ first_rewritten c.args.table.now.marks c.args.trail.now.items c.args.node (touched_marks c.at-had.result.good) no_marks

pub returns-clause-inside : goal.returns-clause-inside
returns-clause-inside c =
    rw (c.write.ensures, length-set c.args.table.now.marks c.args.node.0 (touched_marks c.at-had.result.good), c.in_ok-push.ensures.items)
    (inside_had (length c.args.table.now.marks) c.args.trail.now.items c.args.node c.at-had.result c.requires.inside c.requires.marks)
