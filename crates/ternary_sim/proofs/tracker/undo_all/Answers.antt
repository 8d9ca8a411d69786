use Rattle.std.proofs.Common.{List, [], ap, arith, length, length-set, sym, ◌++◌, ◌<◌, ◌∙◌, ◌∷◌}
use Rattle.ternary_sim.proofs.TrailMarks.{first_given, first_had, inside_less}
use Rattle.ternary_sim.proofs.tracker.undo_all.Goals as goal
use Rattle.ternary_sim.specs.Inner.Tracking.{AreInside, first_marks}
use Rattle.ternary_sim.specs.declared.trail.Saved.{Saved}
use Rattle.ternary_sim.specs.declared.trail.Saved.TheVariants.{Had}

pub write-requires : goal.write-requires
write-requires c =
    let both : AreInside (length c.loop-entry.table.marks) (Had c.in-Had.node c.in-Had.marks ∷ []) = rw c.in-Had.is at (inside_less (length c.loop-entry.table.marks) c.pop.new.self.items c.in-Some.entry (rw c.in-Some.ensures.items at c.loop-entry.invariant.inside)).1 in
    let within : c.in-Had.node.0 < length c.loop-entry.table.marks = both.0 in
    omega (arith, within)

pub loop-entry-preserved-in-Given : goal.loop-entry-preserved-in-Given
loop-entry-preserved-in-Given c = record {
  first =
      sym (first_given c.loop-entry.table.marks c.pop.new.self.items)
      ∙ ap (λ (e : Saved). first_marks c.loop-entry.table.marks (c.pop.new.self.items ++ e ∷ [])) (sym c.in-Given.is)
      ∙ ap (λ (es : List Saved). first_marks c.loop-entry.table.marks es) (sym c.in-Some.ensures.items)
      ∙ c.loop-entry.invariant.first;
  inside = (inside_less (length c.loop-entry.table.marks) c.pop.new.self.items c.in-Some.entry (rw c.in-Some.ensures.items at c.loop-entry.invariant.inside)).0;
  size = c.loop-entry.invariant.size;
  watched = c.loop-entry.invariant.watched;
}

pub loop-entry-preserved : goal.loop-entry-preserved
loop-entry-preserved c = rw c.write.ensures (record {
  first =
      sym (first_had c.loop-entry.table.marks c.pop.new.self.items c.in-Had.node c.in-Had.marks)
      ∙ ap (λ (e : Saved). first_marks c.loop-entry.table.marks (c.pop.new.self.items ++ e ∷ [])) (sym c.in-Had.is)
      ∙ ap (λ (es : List Saved). first_marks c.loop-entry.table.marks es) (sym c.in-Some.ensures.items)
      ∙ c.loop-entry.invariant.first;
  inside = rw (length-set c.loop-entry.table.marks c.in-Had.node.0 c.in-Had.marks) (inside_less (length c.loop-entry.table.marks) c.pop.new.self.items c.in-Some.entry (rw c.in-Some.ensures.items at c.loop-entry.invariant.inside)).0;
  size = length-set c.loop-entry.table.marks c.in-Had.node.0 c.in-Had.marks ∙ c.loop-entry.invariant.size;
  watched = c.loop-entry.invariant.watched;
})
