use Rattle.std.proofs.Common.{◌≡◌, map, Vec, Global, List, ℕ, subst, sym, ap, ◌∙◌}
use Rattle.rm_model.specs.Inner.Search.{AreKnown}
use Rattle.rm_model.specs.Inner.Numbers.{rank_over, drivers_of, IsFixed}
use Rattle.rm_model.specs.declared.rank_search.Search.{Search}
use Rattle.rm_model.proofs.RankingLemmas.{drivers-known, map-twice, if_ok_map}
use Rattle.rm_model.proofs.ranking.search_covers.Goals as goal
use Rattle.rm_model.specs.Inner.SearchView.{items_of}

pub find_ranks-requires-clause-known : goal.find_ranks-requires-clause-known
find_ranks-requires-clause-known c = subst AreKnown (sym (ap (λ (l : List (Vec ℕ Global)). map items_of l) c.as_slice.ensures.value ∙ c.in_ok-lists.ensures)) (drivers-known c.args.covers.now)

pub returns-clause-ranks : goal.returns-clause-ranks
returns-clause-ranks c =
    let lists : map items_of c.as_slice.result.now ≡ map (drivers_of c.args.covers.now) c.args.covers.now = ap (λ (l : List (Vec ℕ Global)). map items_of l) c.as_slice.ensures.value ∙ c.in_ok-lists.ensures in
    if_ok_map (λ (s : Search). s.ranks.items ≡ map (rank_over s.ranks.items) (map items_of c.as_slice.result.now)) (λ (s : Search). IsFixed c.args.covers.now s.ranks.items) c.find_ranks.result
    (λ s e. e ∙ (ap (λ (l : List (List ℕ)). map (rank_over s.ranks.items) l) lists ∙ map-twice (rank_over s.ranks.items) (drivers_of c.args.covers.now) c.args.covers.now))
    c.find_ranks.ensures.ranks
