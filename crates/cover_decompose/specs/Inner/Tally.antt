-- The number of wires, counted over signals that have numbers.
use Rattle.std.specs.Prelude.{◌≡◌, ℕ, ◌+◌, All, Bool, true, false, List, [], ◌∷◌, length, if◌then◌else◌, slice_get, slice_index_or, slice_set, Option, None, Some}
use Rattle.rm_model.specs.declared.parts.Literal.{Literal}
use Rattle.rm_model.specs.declared.parts.Literal.TheVariants.{Zero, One, Any}
use Rattle.rm_model.specs.declared.parts.Cover.{Cover}
use Rattle.cover_decompose.specs.Count.{joining, literal_count}
use Rattle.cover_decompose.specs.Parity.{parity_ending}

-- one for a signal that is read as 0 for the first time
abbrev pub literal_tally : List Bool → ℕ → Literal → ℕ × List Bool
literal_tally seen k Zero = if slice_index_or seen k false then (0, seen) else (1, slice_set seen k true)
literal_tally seen k One = (0, seen)
literal_tally seen k Any = (0, seen)

abbrev pub zeros_tally : List Bool → List ℕ → List Literal → ℕ × List Bool
zeros_tally seen (k ∷ ks) (l ∷ ls) = let t = literal_tally seen k l in let u = zeros_tally t.1 ks ls in (t.0 + u.0, u.1)
zeros_tally seen [] ls = (0, seen)
zeros_tally seen (k ∷ ks) [] = (0, seen)

abbrev pub row_tally : List Bool → List ℕ → List Literal → ℕ × List Bool
row_tally seen ks row = let t = zeros_tally seen ks row in (joining (literal_count row) + t.0, t.1)

abbrev pub rows_tally : List Bool → List ℕ → List (List Literal) → ℕ × List Bool
rows_tally seen ks [] = (0, seen)
rows_tally seen ks (r ∷ rs) = let t = row_tally seen ks r in let u = rows_tally t.1 ks rs in (t.0 + u.0, u.1)

abbrev pub tally_by : Option Bool → List Bool → List ℕ → Cover → ℕ × List Bool
tally_by (Some ends) seen ks c = (2 + (if ends then 0 else 1), seen)
tally_by None seen ks c = let t = rows_tally seen ks c.rows in ((t.0 + joining (length c.rows)) + (if c.on then 0 else 1), t.1)

abbrev pub cover_tally : List Bool → List ℕ → Cover → ℕ × List Bool
cover_tally seen ks c = tally_by (parity_ending c) seen ks c

abbrev pub one_tally : List Bool → Option (List ℕ) → Option Cover → ℕ × List Bool
one_tally seen None c = (0, seen)
one_tally seen (Some ks) None = (0, seen)
one_tally seen (Some ks) (Some c) = cover_tally seen ks c

-- the covers at these places
abbrev pub covers_tally : List Bool → List (List ℕ) → List Cover → List ℕ → ℕ × List Bool
covers_tally seen inputs covers [] = (0, seen)
covers_tally seen inputs covers (i ∷ is) = let t = one_tally seen (slice_get inputs i) (slice_get covers i) in let u = covers_tally t.1 inputs covers is in (t.0 + u.0, u.1)

-- at each place the rows are as long as the inputs
abbrev pub AreEven : List Cover → List (List ℕ) → Type 0
AreEven [] inputs = Unit {0}
AreEven (c ∷ cs) [] = ⊥
AreEven (c ∷ cs) (ks ∷ inputs) = All (λ (r : List Literal). length r ≡ length ks) c.rows × AreEven cs inputs
