use Rattle.std.proofs.Common.{map, arith, length}
use Rattle.std.proofs.lemmas.List.{length-map}
use Rattle.rm_model.specs.Inner.SearchView.{items_of, state_of}
use Rattle.rm_model.proofs.SearchLemmas.{order-short}
use Rattle.rm_model.proofs.LookLemmas.{settled-earlier}
use Rattle.rm_model.proofs.rank_search.Search.wake_each.Goals as goal

pub loop-place-smaller : goal.loop-place-smaller
loop-place-smaller c = let short = order-short (map items_of c.args.drivers.now) (state_of c.loop-place.self) c.loop-place.invariant.sound in omega (arith, short, length-map c.args.drivers.now items_of)

pub returns-clause-settled : goal.returns-clause-settled
returns-clause-settled c = λ k lt. settled-earlier (map items_of c.args.drivers.now) (length c.loop-place.self.order.items) c.loop-place.place (state_of c.loop-place.self) k (omega arith) (c.loop-place.invariant.settled k lt)
