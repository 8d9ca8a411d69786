use Rattle.std.proofs.Common.{arith, length, ◌∙◌, ◌≤◌}
use Rattle.refutation_check.proofs.Trails.{last_within, mark_before, take_before, trail_less}
use Rattle.refutation_check.proofs.trail.take_back.Goals as goal

pub remove-requires : goal.remove-requires
remove-requires c = last_within _ _ _ c.in-Some.last c.in-Some.ensures.items c.loop-entries.invariant.trail

pub loop-entries-preserved : goal.loop-entries-preserved
loop-entries-preserved c =
    let mark : c.args.mark ≤ length c.pop.new.self.items = mark_before _ _ c.in-Some.last c.args.mark c.in-Some.ensures.items (omega arith) in
    record {
      trail = trail_less _ _ _ _ c.in-Some.last c.in-Some.ensures.items c.remove.ensures c.loop-entries.invariant.trail;
      size = c.remove.ensures.size ∙ c.loop-entries.invariant.size;
      mark = mark;
      same = take_before _ _ c.in-Some.last c.args.mark c.in-Some.ensures.items mark ∙ c.loop-entries.invariant.same;
    }
