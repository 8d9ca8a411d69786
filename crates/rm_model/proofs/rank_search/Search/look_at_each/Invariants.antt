use Rattle.std.proofs.Common.{◌<◌, ℕ, map}
use Rattle.rm_model.specs.Inner.Search.{IsSettled, IsSound}
use Rattle.rm_model.specs.Inner.SearchView.{state_of}
use Rattle.rm_model.proofs.rank_search.Search.look_at_each.Given as goal

abbrev pub invariant-loop-cover : goal.invariant-loop-cover
invariant-loop-cover l = record {
  sound : IsSound (map (λ d. d.items) l.drivers) (state_of l.self);
  settled : (k : ℕ) → k < l.cover → IsSettled (map (λ d. d.items) l.drivers) 0 (state_of l.self) k;
}
