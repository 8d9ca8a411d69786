use Rattle.std.proofs.Common.{map, length, arith, subst, sym}
use Rattle.std.proofs.lemmas.List.{length-map}
use Rattle.rm_model.specs.Inner.Search.{State, IsSound}
use Rattle.rm_model.specs.Inner.SearchView.{items_of, state_of}
use Rattle.rm_model.proofs.SearchLemmas.{start-sound, settled-follow}
use Rattle.rm_model.proofs.rank_search.find_ranks.Goals as goal

pub look_at_each-requires-clause-sound : goal.look_at_each-requires-clause-sound
look_at_each-requires-clause-sound c = subst (λ (s : State). IsSound (map items_of c.args.drivers.now) s) (sym c.in_ok-found.ensures) (start-sound (map items_of c.args.drivers.now) (length c.args.drivers.now) (sym (length-map c.args.drivers.now items_of)))

pub returns-clause-ranks : goal.returns-clause-ranks
returns-clause-ranks c = settled-follow (map items_of c.args.drivers.now) (state_of c.wake_each.new.self) c.in_ok-wake_each.ensures.sound (λ k lt. c.in_ok-wake_each.ensures.settled k (omega (arith, lt, length-map c.args.drivers.now items_of)))
