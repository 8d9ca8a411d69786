-- Pins from a position on.
use Rattle.std.proofs.Common.{◌≡◌, ℕ, zero, suc, Some, None, inl, inr, List, [], ◌∷◌, drop, sym}
use Rattle.std.specs.Prelude.{slice_get}
use Rattle.std.proofs.lemmas.Bool.{cases_eq, ne_eqb}
use Rattle.pin_pool.specs.Pins.{Pins, list_of}
use Rattle.gate_graph.specs.Circuit.{gate_pins}

pub first-there : (xs rest : List ℕ) (k p : ℕ) → drop k xs ≡ p ∷ rest → Some p ≡ slice_get xs k
first-there [] rest zero p e = cc
first-there [] rest (suc k) p e = cc
first-there (x ∷ xs) rest zero p e = cc
first-there (x ∷ xs) rest (suc k) p e = first-there xs rest k p e

pub none-there : (xs : List ℕ) (k : ℕ) → drop k xs ≡ [] → None ≡ slice_get xs k
none-there [] k e = cc
none-there (x ∷ xs) zero e = cc
none-there (x ∷ xs) (suc k) e = none-there xs k e

-- the pins of a gate are those of its number, which isn't that of the observed places
pub listed-there : (v : Pins) (gate k p : ℕ) → Some p ≡ slice_get (gate_pins v gate) k → slice_get (list_of v.inputs gate) k ≡ Some p
listed-there v gate k p e = elim (cases_eq gate 0) [
  | inl is ↦ let none : Some p ≡ slice_get [] k = rw is at e in cc
  | inr ne ↦ sym (rw (ne_eqb gate 0 ne) at e)
]
