use Rattle.std.proofs.Common.{arith, get_or, take}
use Rattle.recursive_learning.proofs.Goods.{kept_next, kept_push, kept_skip}
use Rattle.refutation.specs.FactSets.{held_by}
use Rattle.recursive_learning.proofs.justified_values.held_among.Goals as goal
use Rattle.recursive_learning.proofs.justified_values.held_among.Goals.{then-is_good+in_ok-push, else-is_good}
use Rattle.recursive_learning.proofs.Defaults.{no_good}

pub loop-good-preserved : goal.loop-good-preserved
loop-good-preserved c = elim c.if-is_good.branch [
  | then-is_good+in_ok-push w ↦
      rw (w.kept-is, w.in_ok-push.ensures.items)
      (kept_next c.args.goods.now (held_by c.args.facts.now) _ c.loop-good.good-index no_good (omega arith)
      (kept_push (take c.loop-good.good-index c.args.goods.now) (held_by c.args.facts.now) c.loop-good.kept.items (get_or c.args.goods.now c.loop-good.good-index no_good) c.loop-good.invariant w.if-is_good.ensures))
  | else-is_good w ↦
      rw w.kept-is
      (kept_next c.args.goods.now (held_by c.args.facts.now) c.loop-good.kept.items c.loop-good.good-index no_good (omega arith)
      (kept_skip (take c.loop-good.good-index c.args.goods.now) (held_by c.args.facts.now) c.loop-good.kept.items (get_or c.args.goods.now c.loop-good.good-index no_good) c.loop-good.invariant w.if-is_good.ensures))
]
