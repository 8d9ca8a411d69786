-- Beside Ring.antt: what only private contracts, invariants and laws speak of.
use Rattle.std.specs.Prelude.{ℕ, ◌==◌, if◌then◌else◌, List, [], ◌∷◌, map}
use Rattle.pin_pool.specs.Ring.{without}

-- p put just after a, in x ∷ xs, without x
abbrev pub put : ℕ → List ℕ → ℕ → ℕ → List ℕ
put x [] a p = p ∷ []
put x (y ∷ ys) a p = if x == a then p ∷ y ∷ ys else y ∷ put y ys a p

-- every list without p
abbrev pub without_pin : ℕ → List (List ℕ) → List (List ℕ)
without_pin p lists = map (without p) lists

module _ (z : ℕ) where
  -- what comes after q in x ∷ xs, and z after the last
  abbrev pub next_from : ℕ → List ℕ → ℕ → ℕ
  next_from x [] q = z
  next_from x (y ∷ ys) q = if x == q then y else next_from y ys q

  -- what comes before q in x ∷ xs, and the last before z
  abbrev pub previous_from : ℕ → List ℕ → ℕ → ℕ
  previous_from x [] q = if q == z then x else z
  previous_from x (y ∷ ys) q = if y == q then x else previous_from y ys q
