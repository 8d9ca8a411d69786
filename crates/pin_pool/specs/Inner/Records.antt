-- What the fields of a `Store` keep.
use Rattle.std.specs.Prelude.{◌≡◌, ℕ, ◌<◌, ◌≤◌, true, false, List, length}
use Rattle.std.specs.FinSet as set
use Rattle.std.specs.Ordering.{nat_cmp}
use Rattle.std.proofs.Common.{zero, suc}
use Rattle.pin_pool.specs.Ring.{has, IsApart}
use Rattle.pin_pool.specs.Inner.Links.{lists_of, AreLists, list_at}
use Rattle.pin_pool.specs.Pins.{Pins}
use Rattle.pin_pool.specs.declared.links.Pin.{Pin}
use Rattle.pin_pool.specs.declared.links.Ends.{Ends}
use Rattle.pin_pool.specs.declared.links.Side.TheVariants.{Gate, Driver}
use Rattle.rm_base.specs.Numbers.{number_bound}

-- the numbers below n
unfoldable pub all_below : ℕ → set.FinSet nat_cmp
all_below zero = set.empty
all_below (suc n) = set.insert (all_below n) n

-- no pin of the lists is free
abbrev pub NoneFree : List (List ℕ) → List ℕ → Type 0
NoneFree lists free = (n q : ℕ) → n < length lists → has q (list_at lists n) ≡ true → has q free ≡ false

pub record IsPool (pins : List Pin) (free : List ℕ) (room : ℕ) (gates drivers : List Ends) : Type 0 where
  pub few : length pins ≤ number_bound
  pub few_nodes : length gates ≤ number_bound
  pub nodes : length drivers ≡ length gates
  pub gate_lists : AreLists Gate pins gates
  pub driver_lists : AreLists Driver pins drivers
  pub free_apart : IsApart free
  pub free_within : (q : ℕ) → has q free ≡ true → q < length pins
  pub room_for_all : length pins ≤ room
  pub gates_taken : NoneFree (lists_of Gate pins gates) free
  pub drivers_taken : NoneFree (lists_of Driver pins drivers) free

abbrev pub pins_of : List Pin → List ℕ → List Ends → List Ends → Pins
pins_of pins free gates drivers = record {
  inputs = lists_of Gate pins gates;
  fanouts = lists_of Driver pins drivers;
  taken = set.difference (all_below (length pins)) (set.from_list free);
  spare = length free;
}
