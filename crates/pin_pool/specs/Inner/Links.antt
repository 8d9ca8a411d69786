-- The links of pins and the ends of nodes, and the lists that they spell. z stands for no pin.
use Rattle.std.specs.Prelude.{◌≡◌, ℕ, ◌+◌, ◌<◌, ◌≤◌, true, false, ◌==◌, if◌then◌else◌, List, [], ◌∷◌, map, length, slice_index_or, slice_set}
use Rattle.std.proofs.Common.{zero, suc}
use Rattle.pin_pool.specs.Ring.{has, IsApart}
use Rattle.pin_pool.specs.Inner.Ring.{next_from, previous_from}
use Rattle.pin_pool.specs.declared.links.Link.{Link}
use Rattle.pin_pool.specs.declared.links.Ends.{Ends}
use Rattle.pin_pool.specs.declared.links.Pin.{Pin}
use Rattle.pin_pool.specs.declared.links.Side.{Side}
use Rattle.pin_pool.specs.declared.links.Side.TheVariants.{Gate, Driver}
use Rattle.rm_base.specs.Numbers.{number_bound}

abbrev pub link : ℕ → ℕ → ℕ → Link
link n a b = record { node = n; previous = a; next = b }

abbrev pub ends : ℕ → ℕ → Ends
ends a b = record { first = a; last = b }

-- what is read past the end
abbrev pub no_link : Link
no_link = link 0 0 0

abbrev pub no_ends : Ends
no_ends = ends 0 0

abbrev pub other : Side → Side
other Gate = Driver
other Driver = Gate

abbrev pub link_of : Side → Pin → Link
link_of Gate p = p.gate
link_of Driver p = p.driver

abbrev pub with_link : Side → Link → Pin → Pin
with_link Gate l p = record p { gate = l }
with_link Driver l p = record p { driver = l }

abbrev pub links_of : Side → List Pin → List Link
links_of side pins = map (link_of side) pins

abbrev pub link_at : List Link → ℕ → Link
link_at links q = slice_index_or links q no_link

abbrev pub ends_at : List Ends → ℕ → Ends
ends_at es n = slice_index_or es n no_ends

abbrev pub list_at : List (List ℕ) → ℕ → List ℕ
list_at lists n = slice_index_or lists n []

-- the links with another next or previous pin at a
unfoldable pub with_next : List Link → ℕ → ℕ → List Link
with_next links a v = slice_set links a (link (link_at links a).node (link_at links a).previous v)

unfoldable pub with_previous : List Link → ℕ → ℕ → List Link
with_previous links a v = slice_set links a (link (link_at links a).node v (link_at links a).next)

module _ (z : ℕ) where
  -- the same for the ends, where a is no pin
  abbrev pub ends_next : Ends → ℕ → ℕ → Ends
  ends_next e a v = ends (if a == z then v else e.first) e.last

  abbrev pub ends_previous : Ends → ℕ → ℕ → Ends
  ends_previous e a v = ends e.first (if a == z then v else e.last)

  -- the pins from p on, n at most
  unfoldable pub walk : List Link → ℕ → ℕ → List ℕ
  walk links zero p = []
  walk links (suc n) p = if p == z then [] else p ∷ walk links n (link_at links p).next

  -- the list of each node
  unfoldable pub chains : List Link → List Ends → List (List ℕ)
  chains links es = map (λ e. walk links (length links) e.first) es

  -- the links and the ends of the node n spell the list xs
  pub record IsRing (links : List Link) (n : ℕ) (e : Ends) (xs : List ℕ) : Type 0 where
    pub apart : IsApart xs
    pub pins : has z xs ≡ false
    pub first : e.first ≡ next_from z z xs z
    pub last : e.last ≡ previous_from z z xs z
    pub within : (q : ℕ) → has q xs ≡ true → q < length links
    pub each : (q : ℕ) → has q xs ≡ true → link_at links q ≡ link n (previous_from z z xs q) (next_from z z xs q)

  pub record AreRings (links : List Link) (es : List Ends) (lists : List (List ℕ)) : Type 0 where
    pub sizes : length lists ≡ length es
    pub each : (n : ℕ) → n < length es → IsRing links n (ends_at es n) (list_at lists n)

  -- they spell some lists, which are then these
  abbrev pub Spell : List Link → List Ends → Type 0
  Spell links es = AreRings links es (chains links es)

-- the list of each node on one side, and that the links and ends spell them
abbrev pub lists_of : Side → List Pin → List Ends → List (List ℕ)
lists_of side pins es = chains number_bound (links_of side pins) es

abbrev pub AreLists : Side → List Pin → List Ends → Type 0
AreLists side pins es = AreRings number_bound (links_of side pins) es (lists_of side pins es)

-- some list has p
abbrev pub IsIn : List (List ℕ) → ℕ → Type 0
IsIn lists p = (n : ℕ) × (n < length lists) × (has p (list_at lists n) ≡ true)

-- no list has p
abbrev pub IsOutside : List (List ℕ) → ℕ → Type 0
IsOutside lists p = (n : ℕ) → n < length lists → has p (list_at lists n) ≡ false

-- each pin of the list is below n
abbrev pub AllWithin : List ℕ → ℕ → Type 0
AllWithin xs n = (q : ℕ) → has q xs ≡ true → q < n

-- the pins from one on along their links on one side, with more steps than there are pins
abbrev pub walk_on : Side → List Pin → ℕ → List ℕ
walk_on side pins p = walk number_bound (links_of side pins) (suc (length pins)) p

-- pins below n, n of them at most
pub record AreAtMost (xs : List ℕ) (n : ℕ) : Type 0 where
  pub within : AllWithin xs n
  pub short : length xs ≤ n

-- a pin and the ends of a node as they are made
abbrev pub blank_pin : Pin
blank_pin = record { gate = link number_bound number_bound number_bound; driver = link number_bound number_bound number_bound }

abbrev pub blank_ends : Ends
blank_ends = ends number_bound number_bound

-- n numbers from first on
abbrev pub numbers : ℕ → ℕ → List ℕ
numbers first zero = []
numbers first (suc n) = first ∷ numbers (first + 1) n
