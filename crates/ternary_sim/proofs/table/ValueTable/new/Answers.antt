use Rattle.std.proofs.Common.{List, ap, sym, ◌∙◌}
use Rattle.ternary_sim.proofs.Counts.{plain_different, plain_open}
use Rattle.ternary_sim.proofs.table.ValueTable.new.Goals as goal
use Rattle.ternary_sim.specs.Inner.ValueTables.{is_different, is_open, watched_count}
use Rattle.ternary_sim.specs.declared.marks.NodeMarks.{NodeMarks}

pub invariant_of-result : goal.invariant_of-result
invariant_of-result c = (
  sym (ap (λ (ms : List NodeMarks). watched_count is_different c.in_ok-watched.watched.items ms) c.in_ok-marks.ensures ∙ plain_different c.in_ok-watched.watched.items c.args.base.now),
  sym (ap (λ (ms : List NodeMarks). watched_count is_open c.in_ok-watched.watched.items ms) c.in_ok-marks.ensures ∙ plain_open c.in_ok-watched.watched.items c.args.base.now),
)
