-- What the words of a text's lines are, and how many.
use Rattle.std.specs.Prelude.{◌≡◌, ◌+◌, ℕ, true, List, [], ◌∷◌, length, None}
use Rattle.std.specs.List.{list_all}
use Rattle.rm_model.specs.WellFormed.{is_token}
use Rattle.blif_lines.specs.Layout.{Logical, words_in}

-- the words of each line whose layout has no fault
abbrev pub AreTokens : List Logical → Type 0
AreTokens [] = Unit {0}
AreTokens (l ∷ ls) = (l.flaw ≡ None → list_all is_token (words_in l) ≡ true) × AreTokens ls

-- the tokens of all lines
abbrev pub token_sum : List Logical → ℕ
token_sum [] = 0
token_sum (l ∷ ls) = length l.tokens + token_sum ls
