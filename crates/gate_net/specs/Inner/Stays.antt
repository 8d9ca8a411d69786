-- Values that are known at the pins of a gate: that they stay known, and that they are right.
use Rattle.std.specs.Prelude.{Bool, List, Option, Some, [], ◌∷◌, ◌≡◌}

-- a value that is known stays known
abbrev pub Stays : Option Bool → Option Bool → Type 0
Stays o u = (c : Bool) → o ≡ Some c → u ≡ Some c

-- what is known at each place of a list stays known there
abbrev pub AllStay : List (Option Bool) → List (Option Bool) → Type 0
AllStay [] [] = Unit {0}
AllStay [] (u ∷ us) = ⊥
AllStay (o ∷ os) [] = ⊥
AllStay (o ∷ os) (u ∷ us) = Stays o u × AllStay os us

-- each known value is the value at its place
abbrev pub Approximates : List (Option Bool) → List Bool → Type 0
Approximates [] [] = Unit {0}
Approximates [] (b ∷ bs) = ⊥
Approximates (o ∷ os) [] = ⊥
Approximates (o ∷ os) (b ∷ bs) = ((c : Bool) → o ≡ Some c → b ≡ c) × Approximates os bs
