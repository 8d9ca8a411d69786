-- Lists of pins as the records keep them, where the last number is no pin.
use Rattle.std.specs.Prelude.{◌≡◌, ℕ, ◌+◌, ◌<◌, ◌≤◌, true, false, List, [], ◌∷◌, ◌++◌, length, slice_set, replicate, Option, Some, None, ◌==◌, if◌then◌else◌}
use Rattle.std.specs.Ordering.{nat_cmp}
use Rattle.std.specs.FinSet as set
use Rattle.pin_pool.specs.Ring.{has, IsApart}
use Rattle.pin_pool.specs.Inner.Ring.{previous_from, put, without_pin}
use Rattle.pin_pool.specs.Pins.{Pins, list_of, StandsIn}
use Rattle.pin_pool.specs.Rings.{Rings, IsIn}
use Rattle.pin_pool.specs.declared.names.PinNo.{PinNo}
use Rattle.pin_pool.specs.declared.names.Slot.{Slot}
use Rattle.rm_base.specs.Numbers.{number_bound}

-- some list has p
abbrev pub IsListed : List (List ℕ) → ℕ → Type 0
IsListed lists p = (n : ℕ) × (n < length lists) × (has p (list_of lists n) ≡ true)

-- no list has p
abbrev pub IsUnlisted : List (List ℕ) → ℕ → Type 0
IsUnlisted lists p = (n : ℕ) → n < length lists → has p (list_of lists n) ≡ false

-- the pin is in both rings
abbrev pub IsHeld : Pins → ℕ → Type 0
IsHeld v p = IsListed v.inputs p × IsListed v.fanouts p

-- the pin is taken, and in no ring
abbrev pub IsFree : Pins → ℕ → Type 0
IsFree v p = (set.contains v.taken p ≡ true) × IsUnlisted v.inputs p × IsUnlisted v.fanouts p

-- with another list at n
abbrev pub with_list : List (List ℕ) → ℕ → List ℕ → List (List ℕ)
with_list lists n xs = slice_set lists n xs

-- a pin by its number, where the last number is none
abbrev pub code : Option PinNo → ℕ
code None = number_bound
code (Some a) = a.0

abbrev pub named : ℕ → Option PinNo
named a = if a == number_bound then None else Some (record { 0 = a })

-- p put just after a pin, or first
abbrev pub put_at : List ℕ → Option PinNo → ℕ → List ℕ
put_at xs a p = put number_bound xs (code a) p

-- a slot has the node, and the pin just before p in its list
pub record IsPlace (lists : List (List ℕ)) (p node : ℕ) (before : Option PinNo) : Type 0 where
  pub within : node < length lists
  pub stands : has p (list_of lists node) ≡ true
  pub follows : before ≡ named (previous_from number_bound number_bound (list_of lists node) p)

-- the lists with p moved to the end of one, and to a place in it
abbrev pub moved_last : List (List ℕ) → ℕ → ℕ → List (List ℕ)
moved_last lists p n = with_list (without_pin p lists) n (list_of (without_pin p lists) n ++ p ∷ [])

abbrev pub moved_after : List (List ℕ) → ℕ → ℕ → Option PinNo → List (List ℕ)
moved_after lists p n a = with_list (without_pin p lists) n (put_at (list_of (without_pin p lists) n) a p)

-- no pin stands twice in the lists, and each is taken
pub record AreApart (lists : List (List ℕ)) (taken : set.FinSet nat_cmp) : Type 0 where
  pub apart : (n : ℕ) → n < length lists → IsApart (list_of lists n)
  pub pins : (n : ℕ) → n < length lists → has number_bound (list_of lists n) ≡ false
  pub one : (m n q : ℕ) → m < length lists → n < length lists → has q (list_of lists m) ≡ true → has q (list_of lists n) ≡ true → m ≡ n
  pub members : (n q : ℕ) → n < length lists → has q (list_of lists n) ≡ true → set.contains taken q ≡ true

-- what holds of the lists
pub record IsKept (v : Pins) : Type 0 where
  pub inputs : AreApart v.inputs v.taken
  pub fanouts : AreApart v.fanouts v.taken
  pub nodes : length v.fanouts ≡ length v.inputs
  pub few : set.len v.taken + v.spare ≤ number_bound

-- there are more pins and nodes, and no pin is taken, linked or moved
pub record GrowsTo (old new : Pins) : Type 0 where
  pub taken : new.taken ≡ old.taken
  pub inputs : (n : ℕ) × (new.inputs ≡ old.inputs ++ replicate n [])
  pub fanouts : (n : ℕ) × (new.fanouts ≡ old.fanouts ++ replicate n [])

-- p may be put where the slot says
pub record HasPlace (v : Pins) (p : ℕ) (slot : Slot) : Type 0 where
  pub loose : IsFree v p
  pub gate : slot.gate < length v.inputs
  pub driver : slot.driver < length v.fanouts
  pub in_gate : StandsIn (list_of v.inputs slot.gate) slot.in_gate
  pub in_driver : StandsIn (list_of v.fanouts slot.driver) slot.in_driver

-- p may be moved to where the slot says
pub record HasDriver (v : Pins) (p : ℕ) (slot : Slot) : Type 0 where
  pub linked : IsHeld v p
  pub driver : slot.driver < length v.fanouts
  pub in_driver : StandsIn (list_of (without_pin p v.fanouts) slot.driver) slot.in_driver

-- a pin is in the list of a gate exactly if it is in that of a driver
pub record ArePaired (r : Rings) : Type 0 where
  pub driven : (p : ℕ) → IsIn r.inputs p → IsIn r.fanouts p
  pub read : (p : ℕ) → IsIn r.fanouts p → IsIn r.inputs p
