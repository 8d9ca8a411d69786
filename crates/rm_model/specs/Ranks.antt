-- The rank of each cover: 0 where it reads sources alone, and otherwise one more than the greatest rank of the covers that it reads.
use Rattle.std.specs.Prelude.{◌≡◌, ℕ, zero, suc, is_none, List, [], ◌∷◌, map, length, max, position, Option, None, Some, slice_index_or, if◌then◌else◌, replicate}
use Rattle.std.specs.Option.{option_map}
use Rattle.rm_model.specs.Words.{is_word}
use Rattle.rm_model.specs.declared.parts.Cover.{Cover}
use Rattle.rm_model.specs.declared.parts.Model.{Model}
use Rattle.rm_base.specs.Words.{Word}

-- the place of the first cover with that output
abbrev pub cover_of : List Cover → Word → Option ℕ
cover_of [] x = None
cover_of (c ∷ cs) x = if is_word x c.output then Some 0 else option_map (λ k. suc k) (cover_of cs x)

-- the greater of two ranks, if both are there
abbrev pub higher : Option ℕ → Option ℕ → Option ℕ
higher None r = None
higher (Some n) None = None
higher (Some n) (Some k) = Some (max n k)

abbrev pub highest : List (Option ℕ) → Option ℕ
highest [] = Some 0
highest (r ∷ rs) = higher r (highest rs)

-- the rank at a place, None past the end
abbrev pub rank_at : List (Option ℕ) → ℕ → Option ℕ
rank_at ranks k = slice_index_or ranks k None

-- the least rank of a reader of what drives a name: a source, or the cover at that place
abbrev pub rank_above : List (Option ℕ) → Option ℕ → Option ℕ
rank_above ranks None = Some 0
rank_above ranks (Some k) = option_map (λ n. suc n) (rank_at ranks k)

-- the rank of a cover by the ranks of those that it reads
abbrev pub rank_by : Model → List (Option ℕ) → Cover → Option ℕ
rank_by m ranks c = highest (map (λ x. rank_above ranks (cover_of m.covers x)) c.inputs)

-- the ranks below n, by so many rounds
abbrev pub ranks_below : ℕ → Model → List (Option ℕ)
ranks_below zero m = replicate (length m.covers) None
ranks_below (suc n) m = map (rank_by m (ranks_below n m)) m.covers

-- the rank of each cover, None for a cover on a cycle or behind one
abbrev pub ranks_of : Model → List (Option ℕ)
ranks_of m = ranks_below (length m.covers) m

-- these are the ranks: each follows from the others
abbrev pub AreRanks : Model → List (Option ℕ) → Type 0
AreRanks m ranks = ranks ≡ map (rank_by m ranks) m.covers

-- the place of the first cover without rank
abbrev pub first_without_rank : Model → Option ℕ
first_without_rank m = position is_none (ranks_of m)
