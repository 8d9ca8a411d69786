-- Windows: the needed covers in post-order, cut into consecutive runs of about the same weight.
use Rattle.std.specs.Prelude.{ℕ, zero, suc, List, [], ◌∷◌, ◌++◌, nat_le, sum_by, if◌then◌else◌}
use Rattle.std.specs.List.{flat_map}
use Rattle.rm_model.specs.declared.parts.Cover.{Cover}
use Rattle.rm_model.specs.declared.parts.Model.{Model}
use Rattle.cover_decompose.specs.Count.{cover_wires}
use Rattle.window_cut.specs.Order.{ordered_covers}

-- the wires of each cover's gates; a Not that several covers share isn't counted
abbrev pub weight : List Cover → ℕ
weight cs = sum_by cover_wires cs

-- what is left at the end is the last window, unless nothing is
abbrev pub last_window : List Cover → List (List Cover)
last_window [] = []
last_window (c ∷ cs) = (c ∷ cs) ∷ []

-- the window that is begun is closed as soon as it has at least the first weight, and each later one as soon as it has at least `width`
abbrev pub windows_from : ℕ → ℕ → List Cover → List Cover → List (List Cover)
windows_from first width begun [] = last_window begun
windows_from first width begun (c ∷ cs) = let window = begun ++ c ∷ [] in if nat_le first (weight window) then window ∷ windows_from width width [] cs else windows_from first width window cs

-- the first window's weight: a shift moves all later seams
abbrev pub first_width : ℕ → ℕ → ℕ
first_width width zero = width
first_width width (suc n) = suc n

abbrev pub windows : ℕ → ℕ → Model → List (List Cover)
windows width shift m = windows_from (first_width width shift) width [] (ordered_covers m)

-- the covers of all windows in order
abbrev pub joined : List (List Cover) → List Cover
joined ws = flat_map (λ w. w) ws
