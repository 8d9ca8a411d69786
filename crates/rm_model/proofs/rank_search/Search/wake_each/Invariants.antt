use Rattle.std.proofs.Common.{◌<◌, ◌-◌, ℕ, length, map}
use Rattle.rm_model.specs.Inner.Search.{IsSettled, IsSound}
use Rattle.rm_model.specs.Inner.SearchView.{state_of}
use Rattle.rm_model.proofs.rank_search.Search.wake_each.Given as goal

abbrev pub invariant-loop-place : goal.invariant-loop-place
invariant-loop-place l = record {
  sound : IsSound (map (λ d. d.items) l.drivers) (state_of l.self);
  settled : (k : ℕ) → k < length l.drivers → IsSettled (map (λ d. d.items) l.drivers) l.place (state_of l.self) k;
}

abbrev pub decreases-loop-place : goal.decreases-loop-place
decreases-loop-place l = length l.drivers - l.place
