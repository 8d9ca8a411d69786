-- Covers that compute the same of the same names are merged: each cover in turn, in post-order, reads what stands for its inputs, and where what it computes is there already, that name stands for its output.
use Rattle.std.specs.Prelude.{Bool, true, false, ◌&&◌, ◌==◌, List, [], ◌∷◌, ◌++◌, map, fold, Option, None, Some, if◌then◌else◌}
use Rattle.std.specs.Bool.{beq}
use Rattle.std.specs.Cmp.Lexicographic.{pointwise}
use Rattle.rm_model.specs.Words.{is_word, literal_byte}
use Rattle.rm_model.specs.Value.{is_among, observed_names}
use Rattle.rm_model.specs.declared.parts.Literal.{Literal}
use Rattle.rm_model.specs.declared.parts.Literal.TheVariants.{Zero, One, Any}
use Rattle.rm_model.specs.declared.parts.Cover.{Cover}
use Rattle.rm_model.specs.declared.parts.Model.{Model}
use Rattle.rm_base.specs.Words.{Word}
use Rattle.window_cut.specs.Order.{ordered_covers}

-- COPIES

-- the input of the one row `1`
abbrev pub copied_by : List Word → List Literal → Option Word
copied_by [] r = None
copied_by (x ∷ []) [] = None
copied_by (x ∷ []) (Zero ∷ ls) = None
copied_by (x ∷ []) (Any ∷ ls) = None
copied_by (x ∷ []) (One ∷ []) = Some x
copied_by (x ∷ []) (One ∷ l ∷ ls) = None
copied_by (x ∷ y ∷ ys) r = None

abbrev pub copied_of : List Word → Bool → List (List Literal) → Option Word
copied_of xs false rows = None
copied_of xs true [] = None
copied_of xs true (r ∷ []) = copied_by xs r
copied_of xs true (r ∷ s ∷ rows) = None

-- the name whose value a cover's output has, where the cover is a copy
abbrev pub copied : Cover → Option Word
copied c = copied_of c.inputs c.on c.rows

abbrev pub copy_of : Word → Word → Cover
copy_of x y = record { inputs = x ∷ []; output = y; on = true; rows = (One ∷ []) ∷ [] }

-- EQUAL COVERS

abbrev pub is_same_literal : Literal → Literal → Bool
is_same_literal a b = literal_byte a == literal_byte b

-- two covers with equal inputs, ending and rows
abbrev pub is_same : Cover → Cover → Bool
is_same c d = pointwise is_word c.inputs d.inputs && (beq c.on d.on && pointwise (pointwise is_same_literal) c.rows d.rows)

-- the output of the first cover that is the same
abbrev pub first_same : List Cover → Cover → Option Word
first_same [] d = None
first_same (c ∷ cs) d = if is_same c d then Some c.output else first_same cs d

-- MERGING

-- the covers that are kept so far, and names with what stands for them, the latest first
pub record Sharing : Type 0 where
  pub kept : List Cover
  pub stands : List (Word × Word)

-- what stands for a name: the name itself, if there is no pair with it
abbrev pub stand_for : List (Word × Word) → Word → Word
stand_for [] x = x
stand_for (p ∷ ps) x = if is_word x p.0 then p.1 else stand_for ps x

-- a cover that reads what stands for its inputs
abbrev pub standing : List (Word × Word) → Cover → Cover
standing stands c = record c { inputs = map (stand_for stands) c.inputs }

-- what a cover copies, or else the output of the first cover that is the same
abbrev pub origin_by : Option Word → List Cover → Cover → Option Word
origin_by (Some x) kept d = Some x
origin_by None kept d = first_same kept d

abbrev pub origin : List Cover → Cover → Option Word
origin kept d = origin_by (copied d) kept d

-- an observed name stays, as a copy
abbrev pub copy_if_observed : List Word → Word → Word → List Cover
copy_if_observed observed x y = if is_among observed y then copy_of x y ∷ [] else []

-- a cover with no origin is kept, and an origin stands for the cover's output
abbrev pub with_origin : List Word → Sharing → Cover → Option Word → Sharing
with_origin observed s d None = record s { kept = s.kept ++ d ∷ [] }
with_origin observed s d (Some x) = record { kept = s.kept ++ copy_if_observed observed x d.output; stands = (d.output, x) ∷ s.stands }

-- after one more cover
abbrev pub with_cover : List Word → Sharing → Cover → Sharing
with_cover observed s c = with_origin observed s (standing s.stands c) (origin s.kept (standing s.stands c))

abbrev pub nothing_yet : Sharing
nothing_yet = record { kept = []; stands = [] }

-- after these covers
abbrev pub sharing_of : List Word → List Cover → Sharing
sharing_of observed cs = fold (with_cover observed) nothing_yet cs

-- the model with the covers that are kept of its needed ones
abbrev pub shared : Model → Model
shared m = record m { covers = (sharing_of (observed_names m) (ordered_covers m)).kept }
