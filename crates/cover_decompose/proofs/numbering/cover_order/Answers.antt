use Rattle.cover_decompose.proofs.NumberingLemmas.{in_order, ranks_small}
use Rattle.cover_decompose.proofs.numbering.cover_order.Goals as goal

pub places_by_rank-requires : goal.places_by_rank-requires
places_by_rank-requires c = ranks_small c.args.model.now c.ranks.result.now c.ranks.ensures (c.ranks_follow.ensures.length c.args.model.now) (c.ranks_follow.ensures.small c.args.model.now)

pub returns : goal.returns
returns c = in_order c.args.model.now c.ranks.result.now c.in_ok-order.order.items c.ranks.ensures (c.ranks_follow.ensures.length c.args.model.now) c.in_ok-order.ensures
