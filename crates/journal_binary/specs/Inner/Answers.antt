-- Beside Fronts.antt: what reading functions answer.
use Rattle.std.specs.Prelude.{◌≡◌, ◌≤◌, ℕ, List, Result, Ok, Err, drop, length, ◌++◌, ◌∷◌, []}
use Rattle.journal_binary.specs.Fronts.{Front, bad, got, short}
use Rattle.journal_binary.specs.declared.fronts.Lack.{Lack}
use Rattle.journal_binary.specs.declared.fronts.Lack.TheVariants as lack
use Rattle.journal_binary.specs.declared.fronts.Stop.{Stop}
use Rattle.journal_binary.specs.declared.fronts.Stop.TheVariants as stop

-- a part and what is left, or what it lacks
abbrev pub front_of : {X A : Type 0} → (X → A × List ℕ) → Result X Lack → Front A
front_of f (Ok x) = got (f x).0 (f x).1
front_of f (Err lack.Wrong) = bad
front_of f (Err lack.Early) = short

abbrev pub stop_of : Lack → Stop
stop_of lack.Wrong = stop.Wrong
stop_of lack.Early = stop.Early

-- reading stopped for this
abbrev pub Stopped : {A : Type 0} → Stop → Front A → Type 0
Stopped stop.Wrong f = f ≡ bad
Stopped stop.Early f = f ≡ short
Stopped stop.NoMemory f = Unit {0}

-- what is left when bytes are read from the front
pub record IsEndOf (rest bytes : List ℕ) : Type 0 where
  pub front : List ℕ
  pub is : bytes ≡ front ++ rest

-- so many bytes at the front are one more part
pub record TakesOne {A : Type 0} (read : List ℕ → Front A) (bytes : List ℕ) (old new : List A) (count : ℕ) : Type 0 where
  pub value : A
  pub within : count ≤ length bytes
  pub is : read bytes ≡ got value (drop count bytes)
  pub adds : new ≡ old ++ value ∷ []
