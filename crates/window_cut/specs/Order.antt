-- The needed covers in depth-first post-order: from each observed name towards the sources, each cover after those that it reads.
use Rattle.std.specs.Prelude.{ℕ, zero, suc, Bool, List, [], ◌∷◌, ◌++◌, length, fold, nat_eq, Option, None, Some, slice_get, if◌then◌else◌}
use Rattle.std.specs.List.{list_any, filter_map}
use Rattle.rm_model.specs.Ranks.{cover_of}
use Rattle.rm_model.specs.Value.{observed_names}
use Rattle.rm_model.specs.declared.parts.Cover.{Cover}
use Rattle.rm_model.specs.declared.parts.Model.{Model}
use Rattle.rm_base.specs.Words.{Word}

-- whether a place is among those that are done
abbrev pub is_done : List ℕ → ℕ → Bool
is_done done k = list_any (nat_eq k) done

abbrev pub inputs_of : Option Cover → List Word
inputs_of None = []
inputs_of (Some c) = c.inputs

-- the names that the cover at a place reads
abbrev pub inputs_at : List Cover → ℕ → List Word
inputs_at cs k = inputs_of (slice_get cs k)

-- the places that are done after a cover is visited: unless it was done, those of its inputs' covers in order, and then its own
abbrev pub with_cover : (List ℕ → Word → List ℕ) → Model → List ℕ → Option ℕ → List ℕ
with_cover visit m done None = done
with_cover visit m done (Some k) = if is_done done k then done else fold visit done (inputs_at m.covers k) ++ k ∷ []

-- the places that are done after the cover of a name is visited, down to a depth
abbrev pub visited : ℕ → Model → List ℕ → Word → List ℕ
visited zero m done x = done
visited (suc n) m done x = with_cover (visited n m) m done (cover_of m.covers x)

-- the same for each name in turn
abbrev pub visited_all : ℕ → Model → List ℕ → List Word → List ℕ
visited_all n m done xs = fold (visited n m) done xs

-- the places of the needed covers; in an acyclic model no path is longer than the number of covers
abbrev pub post_order : Model → List ℕ
post_order m = visited_all (length m.covers) m [] (observed_names m)

-- the covers at these places
abbrev pub covers_at : List Cover → List ℕ → List Cover
covers_at cs ks = filter_map (slice_get cs) ks

abbrev pub ordered_covers : Model → List Cover
ordered_covers m = covers_at m.covers (post_order m)
