use Rattle.std.proofs.Common.{arith, get_or, sym, take, ◌∙◌, ◌≡◌}
use Rattle.recursive_learning.proofs.Goods.{goods_next, goods_push, goods_skip}
use Rattle.refutation.specs.FactSets.{held_by}
use Rattle.refutation.specs.declared.reasoning.Fact.TheVariants.{Good}
use Rattle.recursive_learning.proofs.justified_values.goods_among.Goals as goal
use Rattle.recursive_learning.proofs.justified_values.goods_among.Goals.{then-is_good+in_ok-push, else-is_good}
use Rattle.recursive_learning.proofs.Defaults.{no_added}

pub loop-entry-preserved-in_default : goal.loop-entry-preserved-in_default
loop-entry-preserved-in_default c =
    goods_next c.args.added.now (held_by c.args.facts.now) c.loop-entry.goods.items c.loop-entry.entry-index no_added (omega arith)
    (goods_skip (take c.loop-entry.entry-index c.args.added.now) (held_by c.args.facts.now) c.loop-entry.goods.items (get_or c.args.added.now c.loop-entry.entry-index no_added) c.loop-entry.invariant (λ b is. absurd (c.in_default.not-Good b is)))

pub loop-entry-preserved : goal.loop-entry-preserved
loop-entry-preserved c = elim c.if-is_good.branch [
  | then-is_good+in_ok-push w ↦
      rw (w.goods-is, w.in_ok-push.ensures.items)
      (goods_next c.args.added.now (held_by c.args.facts.now) _ c.loop-entry.entry-index no_added (omega arith)
      (goods_push (take c.loop-entry.entry-index c.args.added.now) (held_by c.args.facts.now) c.loop-entry.goods.items (get_or c.args.added.now c.loop-entry.entry-index no_added) c.in-Good.value c.loop-entry.invariant c.in-Good.is w.if-is_good.ensures))
  | else-is_good w ↦
      rw w.goods-is
      (goods_next c.args.added.now (held_by c.args.facts.now) c.loop-entry.goods.items c.loop-entry.entry-index no_added (omega arith)
      (goods_skip (take c.loop-entry.entry-index c.args.added.now) (held_by c.args.facts.now) c.loop-entry.goods.items (get_or c.args.added.now c.loop-entry.entry-index no_added) c.loop-entry.invariant
      (λ b is known. w.if-is_good.ensures (let same : Good c.in-Good.value ≡ Good b = sym c.in-Good.is ∙ is in let e : c.in-Good.value ≡ b = cc in rw e known))))
]
