-- What a miter tells.
use Rattle.std.specs.Prelude.{Bool, Some, length, slice_get, ℕ, ◌≡◌, ◌≢◌, ◌↔◌}
use Rattle.gate_net.specs.Net.{IsAcyclic, IsWellFormed, Net, source_count}
use Rattle.gate_net.specs.Values.{AreGoodValues, Detects}
use Rattle.equal_miter.specs.Miter.{miter_fault, miter_of}

-- two nets with as many sources and observed places
pub record AreAlike (one two : Net) : Type 0 where
  pub first : IsWellFormed one
  pub second : IsWellFormed two
  pub sources : source_count one ≡ source_count two
  pub places : length one.observed ≡ length two.observed

-- under the assignment the nets differ at that observed place
pub record DiffersAtPlace (one two : Net) (v w : ℕ → Bool) (k : ℕ) : Type 0 where
  pub ours : ℕ
  pub theirs : ℕ
  pub ours_is : slice_get one.observed k ≡ Some ours
  pub theirs_is : slice_get two.observed k ≡ Some theirs
  pub differs : v ours ≢ w theirs

-- under the assignment the nets differ at some observed place
pub record DifferUnder (one two : Net) (a : ℕ → Bool) : Type 0 where
  pub values : ℕ → Bool
  pub others : ℕ → Bool
  pub good : AreGoodValues one a values
  pub other_good : AreGoodValues two a others
  pub place : ℕ
  pub differs : DiffersAtPlace one two values others place

-- an assignment detects the miter's fault exactly where the two nets differ under it
abbrev pub MitersTell : Type 0
MitersTell =
    (one two : Net) (a : ℕ → Bool) → AreAlike one two → IsAcyclic (miter_of one two) → Detects (miter_of one two) (miter_fault one two) a ↔ DifferUnder one two a
