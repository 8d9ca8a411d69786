-- The text of a proof that two models compute the same, and of what tells them apart.
use Rattle.std.specs.Prelude.{Bool, List, [], codes, map, ℕ, ◌++◌, ◌∷◌}
use Rattle.std.specs.Fmt.{decimal}
use Rattle.journal_text.specs.Pieces.{behind}
use Rattle.journal_text.specs.Text.{bit, item_word}
use Rattle.equal_miter.specs.declared.likeness.Likeness.{Likeness}
use Rattle.equal_miter.specs.declared.likeness.Likeness.TheVariants.{Differ, Same, Undecided}

-- the values of the sources behind a blank, and nothing where there are no sources
abbrev pub values_behind : List Bool → List ℕ
values_behind [] = []
values_behind (b ∷ bits) = 32 ∷ map bit (b ∷ bits)

-- `differ BITS`, and `differ` where there are no sources
abbrev pub differ_line : List Bool → List ℕ
differ_line bits = codes "differ" ++ (values_behind bits ++ 10 ∷ [])

-- `same ITEMS`, the line of what tells them apart, or `spent ITEMS`
abbrev pub likeness_line : Likeness → List ℕ
likeness_line (Same items) = codes "same" ++ (behind 32 (map item_word items) ++ 10 ∷ [])
likeness_line (Differ bits) = differ_line bits
likeness_line (Undecided items) = codes "spent" ++ (behind 32 (map item_word items) ++ 10 ∷ [])

-- `rambo-equal 1 BUDGET`, and that line
abbrev pub proof_text : ℕ → Likeness → List ℕ
proof_text budget l = codes "rambo-equal 1 " ++ (decimal budget ++ 10 ∷ likeness_line l)
