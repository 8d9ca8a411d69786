-- Beside Order.antt: what only private contracts, invariants and laws speak of.
use Rattle.std.specs.Prelude.{◌≡◌, ℕ, ◌<◌, ◌≤◌, true, List, length, Some, slice_get}
use Rattle.pin_pool.specs.Ring.{has}
use Rattle.pin_pool.specs.Pins.{list_of}
use Rattle.gate_graph.specs.Circuit.{Circuit}
use Rattle.gate_graph.specs.Order.{IsDriven, IsCounted}

-- the readers of the nodes before a place are counted
pub record IsFollowed (v : Circuit) (left xs : List ℕ) (next : ℕ) : Type 0 where
  pub seen : List ℕ
  pub counted : IsCounted v left xs seen
  pub room : next ≤ length xs
  pub from : (p : ℕ) → has p seen ≡ true → IsDriven v xs next p
  pub done : (k x p : ℕ) → k < next → slice_get xs k ≡ Some x → has p (list_of v.pool.fanouts x) ≡ true → has p seen ≡ true
