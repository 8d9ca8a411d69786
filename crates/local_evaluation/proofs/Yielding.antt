-- An iterator in a loop: what it has yielded, and the rest.
use Rattle.std.proofs.Common.{List, Some, [], append-nil, append_assoc, arith, length, length-append, map, sym, ◌++◌, ◌+◌, ◌∷◌, ◌≡◌, ◌≤◌}
use Rattle.std.proofs.lemmas.List.{length-map, map-append}
use Rattle.std.specs.Prelude.{slice_get}
use Rattle.rm_base.proofs.Public.{seam_stands}

-- the item that comes next stands at the number of those before
pub yielded_at : {A B : Type 0} (f : A → B) (all : List B) (before : List A) (x : A) (rest rest' : List B) → all ≡ map f before ++ rest → rest ≡ f x ∷ rest' → slice_get all (length before) ≡ Some (f x)
yielded_at f all before x rest rest' e step =
    rw (e, step, ← length-map before f) (seam_stands (map f before) (f x) rest')

pub yielded_more : {A B : Type 0} (f : A → B) (all : List B) (before : List A) (x : A) (rest rest' : List B) → all ≡ map f before ++ rest → rest ≡ f x ∷ rest' → all ≡ map f (before ++ x ∷ []) ++ rest'
yielded_more f all before x rest rest' e step = rw (e, step, map-append f before (x ∷ [])) (sym (append_assoc (map f before) (f x ∷ []) rest'))

pub yielded_below : {A B : Type 0} (f : A → B) (all : List B) (before : List A) (x : A) (rest rest' : List B) → all ≡ map f before ++ rest → rest ≡ f x ∷ rest' → length before + 1 ≤ length all
yielded_below f all before x rest rest' e step = rw (e, step) (simp (length-append, length-map) (omega arith))

pub yielded_all : {A B : Type 0} (f : A → B) (all : List B) (before : List A) (rest : List B) → all ≡ map f before ++ rest → rest ≡ [] → length all ≡ length before
yielded_all f all before rest e none = rw (e, none, append-nil) (length-map before f)
