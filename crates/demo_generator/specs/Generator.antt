-- The model of a seed: sixteen inputs, and sixty covers of three drawn inputs and two drawn rows each.
use Rattle.std.specs.Prelude.{◌+◌, ◌-◌, ℕ, zero, suc, true, List, [], ◌∷◌, ◌++◌, map, codes, nat_lt, if◌then◌else◌}
use Rattle.std.specs.Fmt.{decimal}
use Rattle.rm_model.specs.declared.parts.Literal.{Literal}
use Rattle.rm_model.specs.declared.parts.Literal.TheVariants.{Zero, One, Any}
use Rattle.rm_model.specs.declared.parts.Cover.{Cover}
use Rattle.rm_model.specs.declared.parts.Model.{Model}
use Rattle.demo_generator.specs.Draws.{after, drawn}
use Rattle.rm_base.specs.Words.{Word}

-- the signals by number: the inputs i0 to i15, and from 16 on the covers t0 to t59
abbrev pub signal : ℕ → Word
signal n = if nat_lt n 16 then codes "i" ++ decimal n else codes "t" ++ decimal (n - 16)

-- so many numbers from one on
abbrev pub numbers_from : ℕ → ℕ → List ℕ
numbers_from first zero = []
numbers_from first (suc count) = first ∷ numbers_from (first + 1) count

-- the literal of a drawn number: 0, 1, and 2 for either
abbrev pub literal : ℕ → Literal
literal zero = Zero
literal (suc zero) = One
literal (suc (suc n)) = Any

abbrev pub row_at : ℕ → List Literal
row_at x = map literal (drawn 3 3 x)

-- cover j, drawn from the state x: three inputs among the signals before it, then two rows of three
abbrev pub cover_at : ℕ → ℕ → Cover
cover_at j x = record {
  inputs = map signal (drawn 3 (16 + j) x);
  output = signal (16 + j);
  on = true;
  rows = row_at (after 3 x) ∷ row_at (after 6 x) ∷ [];
}

-- so many covers from cover j on; each makes nine draws
unfoldable pub covers_from : ℕ → ℕ → ℕ → List Cover
covers_from zero j x = []
covers_from (suc count) j x = cover_at j x ∷ covers_from count (j + 1) (after 9 x)

abbrev pub model_of_seed : ℕ → Model
model_of_seed seed = record {
  name = codes "demo";
  inputs = map signal (numbers_from 0 16);
  clocks = [];
  outputs = map signal (numbers_from 68 8);
  latches = [];
  covers = covers_from 60 0 seed;
}
