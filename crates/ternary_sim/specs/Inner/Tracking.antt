-- Beside Tracking.antt: what only private contracts, invariants and laws speak of.
use Rattle.std.specs.Prelude.{List, [], slice_set, ℕ, ◌<◌, ◌∷◌}
use Rattle.ternary_sim.specs.declared.marks.NodeMarks.{NodeMarks}
use Rattle.ternary_sim.specs.declared.trail.Saved.{Saved}
use Rattle.ternary_sim.specs.declared.trail.Saved.TheVariants.{Given, Had}

-- the marks when the trail began
abbrev pub first_marks : List NodeMarks → List Saved → List NodeMarks
first_marks marks [] = marks
first_marks marks (Given ∷ entries) = first_marks marks entries
first_marks marks (Had x m ∷ entries) = slice_set (first_marks marks entries) x.0 m

-- the marks before each value was given
abbrev pub marks_before : List NodeMarks → List Saved → List (List NodeMarks)
marks_before marks [] = []
marks_before marks (Given ∷ entries) = first_marks marks entries ∷ marks_before marks entries
marks_before marks (Had x m ∷ entries) = marks_before marks entries

-- the entries are of nodes below that number
abbrev pub AreInside : ℕ → List Saved → Type 0
AreInside n [] = Unit {0}
AreInside n (Given ∷ entries) = AreInside n entries
AreInside n (Had x m ∷ entries) = (x.0 < n) × AreInside n entries
