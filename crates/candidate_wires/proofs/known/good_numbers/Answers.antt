use Rattle.std.proofs.Common.{arith, false, true, length, subst, ℕ, ◌≡◌}
use Rattle.std.proofs.lemmas.Option.{slice_get-get_or}
use Rattle.candidate_wires.proofs.InOrder.{AreGoodsIn, goods_all, goods_more, list_last, list_more}
use Rattle.candidate_wires.proofs.known.good_numbers.Goals as goal

pub loop-entry-preserved-then-not-is_good : goal.loop-entry-preserved-then-not-is_good
loop-entry-preserved-then-not-is_good c = record {
  goods = goods_more c.args.added.now c.loop-entry.entry-index _ c.loop-entry.numbers.items c.loop-entry.numbers.items c.loop-entry.invariant.goods (slice_get-get_or c.args.added.now c.loop-entry.entry-index _ c.loop-entry-test.true) (λ x there. there) (λ value good. let yes : c.is_good.result ≡ true = c.is_good.ensures value good in let no : c.is_good.result ≡ false = c.if-not-is_good.true in absurd (cc));
}

pub loop-entry-preserved : goal.loop-entry-preserved
loop-entry-preserved c = record {
  goods = rw c.in_ok-push.ensures.items
      (goods_more c.args.added.now c.loop-entry.entry-index _ c.loop-entry.numbers.items _ c.loop-entry.invariant.goods (slice_get-get_or c.args.added.now c.loop-entry.entry-index _ c.loop-entry-test.true) (λ x. list_more c.loop-entry.numbers.items _ x) (λ value good. list_last c.loop-entry.numbers.items _));
}

pub returns : goal.returns
returns c =
    let all : c.loop-entry.entry-index ≡ length c.args.added.now = omega (arith, c.loop-entry-test.false, c.loop-entry.auto.entry-index-end) in
    goods_all c.args.added.now c.loop-entry.numbers.items (subst (λ (n : ℕ). AreGoodsIn c.args.added.now n c.loop-entry.numbers.items) all c.loop-entry.invariant.goods)
