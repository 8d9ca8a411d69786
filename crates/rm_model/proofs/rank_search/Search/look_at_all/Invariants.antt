use Rattle.std.proofs.Common.{◌≡◌, ◌<◌, ◌≤◌, ℕ, length, map, Some}
use Rattle.std.specs.Prelude.{slice_get}
use Rattle.rm_model.specs.Inner.Search.{IsSettled, LeadsTo}
use Rattle.rm_model.specs.Inner.SearchView.{state_of}
use Rattle.rm_model.proofs.rank_search.Search.look_at_all.Given as goal

abbrev pub invariant-loop-cover : goal.invariant-loop-cover
invariant-loop-cover l = record {
  leads : LeadsTo (map (λ d. d.items) l.drivers) (state_of l.initial.self) (state_of l.self);
  settled : (place p k : ℕ) → place ≤ length l.initial.self.order.items → p < l.cover-index → slice_get l.covers p ≡ Some k → IsSettled (map (λ d. d.items) l.drivers) place (state_of l.self) k;
}
