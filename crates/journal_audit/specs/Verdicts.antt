-- What the verdicts of a journal say of the faults.
use Rattle.std.specs.Prelude.{◌≡◌, ◌<◌, ℕ, Bool, List, [], ◌∷◌, ◌++◌, Option, None, Some, length, map, slice_get}
use Rattle.journal_text.specs.declared.record.Record.{Record}
use Rattle.journal_text.specs.declared.record.Record.TheVariants.{Step, Hit, Spent}

-- the vector of a hit; None for a search that was cut short; a step says nothing of a fault
abbrev pub said_of_record : Record → List (Option (List Bool))
said_of_record (Step step tree) = []
said_of_record (Hit fault vector) = Some vector ∷ []
said_of_record (Spent fault tree) = None ∷ []

-- what the records say, in order
abbrev pub said_of : List Record → List (Option (List Bool))
said_of [] = []
said_of (r ∷ records) = said_of_record r ++ said_of records

-- vectors, and for each verdict the number of its vector
pub record VerdictList : Type 0 where
  pub vectors : List (List Bool)
  pub numbers : List (Option ℕ)

abbrev pub said_by : List (List Bool) → Option ℕ → Option (List Bool)
said_by vectors None = None
said_by vectors (Some number) = slice_get vectors number

-- what they say, in order
abbrev pub said_in : VerdictList → List (Option (List Bool))
said_in v = map (said_by v.vectors) v.numbers

-- each number is that of a vector, and each vector is that of a verdict
pub record AreVerdictsAt (vectors : List (List Bool)) (numbers : List (Option ℕ)) : Type 0 where
  pub within : (j number : ℕ) → slice_get numbers j ≡ Some (Some number) → number < length vectors
  pub used : (number : ℕ) → number < length vectors → (j : ℕ) × (slice_get numbers j ≡ Some (Some number))
