-- Laws of lists of pins, and of what undoes what.
use Rattle.std.specs.Prelude.{◌≡◌, ◌≢◌, ℕ, ◌==◌, ◌||◌, ◌&&◌, not, true, false, List, [], ◌∷◌, ◌++◌, length, Option}
use Rattle.pin_pool.specs.Ring.{has, without, IsApart}
use Rattle.pin_pool.specs.Pins.{put_after, before_in, StandsIn}
use Rattle.pin_pool.specs.Rings.{Rings, AreRings, IsOut, Stood, claimed, joined, dropped, linked, moved, moved_back, redriven, relinked, restored, returned, unlinked}
use Rattle.pin_pool.specs.declared.names.PinNo.{PinNo}
use Rattle.pin_pool.specs.declared.names.Slot.{Slot}
use Rattle.pin_pool.specs.declared.names.Splice.{Splice}

-- which pins a list has
abbrev pub HasAppend : Type 0
HasAppend = (xs ys : List ℕ) (q : ℕ) → has q (xs ++ ys) ≡ (has q xs || has q ys)

abbrev pub HasWithout : Type 0
HasWithout = (p : ℕ) (xs : List ℕ) (q : ℕ) → IsApart xs → has q (without p xs) ≡ (not (q == p) && has q xs)

abbrev pub HasPutAfter : Type 0
HasPutAfter = (xs : List ℕ) (b : Option PinNo) (p q : ℕ) → has q (put_after xs b p) ≡ (q == p || has q xs)

-- no pin stands twice
abbrev pub ApartWithout : Type 0
ApartWithout = (p : ℕ) (xs : List ℕ) → IsApart xs → IsApart (without p xs)

abbrev pub ApartPutAfter : Type 0
ApartPutAfter = (xs : List ℕ) (b : Option PinNo) (p : ℕ) → IsApart xs → has p xs ≡ false → IsApart (put_after xs b p)

-- a pin that is not there
abbrev pub WithoutAbsent : Type 0
WithoutAbsent = (p : ℕ) (xs : List ℕ) → has p xs ≡ false → without p xs ≡ xs

abbrev pub WithoutLast : Type 0
WithoutLast = (p : ℕ) (xs : List ℕ) → has p xs ≡ false → without p (xs ++ p ∷ []) ≡ xs

abbrev pub WithoutPutAfter : Type 0
WithoutPutAfter = (xs : List ℕ) (b : Option PinNo) (p : ℕ) → has p xs ≡ false → without p (put_after xs b p) ≡ xs

-- the pin before still stands, and the pin goes back behind it
abbrev pub StandsBefore : Type 0
StandsBefore = (p : ℕ) (xs : List ℕ) → IsApart xs → has p xs ≡ true → StandsIn (without p xs) (before_in xs p)

abbrev pub PutBack : Type 0
PutBack = (p : ℕ) (xs : List ℕ) → IsApart xs → has p xs ≡ true → put_after (without p xs) (before_in xs p) p ≡ xs

-- each call is undone by its undoing call
abbrev pub RelinkUndoes : Type 0
RelinkUndoes = (r : Rings) (p : ℕ) (slot : Slot) → AreRings r → Stood r p slot → relinked p slot (unlinked p r) ≡ r

abbrev pub RestoreUndoes : Type 0
RestoreUndoes = (r : Rings) (p driver : ℕ) (slot : Slot) → AreRings r → Stood r p slot → restored p slot (redriven p driver r) ≡ r

abbrev pub MoveBackUndoes : Type 0
MoveBackUndoes =
    (r : Rings) (splice : Splice) → splice.from ≢ splice.to → splice.count ≡ length (r.fanouts splice.from) → moved_back splice (moved splice.from splice.to r) ≡ r

abbrev pub UnlinkUndoes : Type 0
UnlinkUndoes = (r : Rings) (p gate driver : ℕ) → IsOut r.inputs p → IsOut r.fanouts p → unlinked p (joined p gate driver r) ≡ r

abbrev pub GiveBackUndoes : Type 0
GiveBackUndoes = (r : Rings) (p : ℕ) → r.taken p ≡ false → returned p (claimed p r) ≡ r

abbrev pub DropUndoes : Type 0
DropUndoes = (r : Rings) (p gate driver : ℕ) → AreRings r → r.taken p ≡ false → dropped p (linked p gate driver r) ≡ r
