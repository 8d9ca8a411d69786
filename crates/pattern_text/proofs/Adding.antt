-- A loop adds a piece for each element: what is added so far and what the rest gives is the whole.
use Rattle.std.proofs.Common.{◌≡◌, ◌∙◌, ℕ, suc, ◌+◌, ◌≤◌, Bool, List, [], ◌∷◌, ◌++◌, length, drop, Some, sym, ap, arith}
use Rattle.std.specs.Prelude.{slice_get}
use Rattle.std.proofs.lemmas.List.{append_assoc, append-nil}
use Rattle.rm_base.proofs.Public.{drop_end, drop_stands}
use Rattle.rm_base.specs.Words.{Word}
use Rattle.pattern_text.specs.Text.{names_text, pattern_line, pattern_lines}

-- one piece more
pub piece_more : (text more piece rest all whole : List ℕ) → more ≡ text ++ piece → all ≡ piece ++ rest → text ++ all ≡ whole → more ++ rest ≡ whole
piece_more text more piece rest all whole e f g = rw e (append_assoc text piece rest ∙ ap (λ (xs : List ℕ). text ++ xs) (sym f) ∙ g)

-- nothing is left
pub all_there : (text rest whole : List ℕ) → rest ≡ [] → text ++ rest ≡ whole → text ≡ whole
all_there text rest whole e f = sym (append-nil text) ∙ ap (λ (xs : List ℕ). text ++ xs) (sym e) ∙ f

pub drop_next : {A : Type 0} (xs : List A) (at : ℕ) (x : A) → slice_get xs at ≡ Some x → drop at xs ≡ x ∷ drop (at + 1) xs
drop_next xs at x e = let one : suc at ≡ at + 1 = omega arith in drop_stands xs at x e ∙ ap (λ (n : ℕ). x ∷ drop n xs) one

pub name_more : (text more whole : List ℕ) (names : List Word) (at : ℕ) (x : Word) → slice_get names at ≡ Some x → more ≡ text ++ 32 ∷ x → text ++ names_text (drop at names) ≡ whole → more ++ names_text (drop (at + 1) names) ≡ whole
name_more text more whole names at x there e =
    piece_more text more (32 ∷ x) (names_text (drop (at + 1) names)) (names_text (drop at names)) whole e (ap names_text (drop_next names at x there))

pub names_there : (text whole : List ℕ) (names : List Word) (at : ℕ) → length names ≤ at → text ++ names_text (drop at names) ≡ whole → text ≡ whole
names_there text whole names at le = all_there text (names_text (drop at names)) whole (ap names_text (drop_end names at le))

pub pattern_more : (text more whole : List ℕ) (patterns : List (List Bool)) (at : ℕ) (x : List Bool) → slice_get patterns at ≡ Some x → more ≡ text ++ pattern_line at x
    → text ++ pattern_lines at (drop at patterns) ≡ whole → more ++ pattern_lines (at + 1) (drop (at + 1) patterns) ≡ whole
pattern_more text more whole patterns at x there e =
    piece_more text more (pattern_line at x) (pattern_lines (at + 1) (drop (at + 1) patterns)) (pattern_lines at (drop at patterns)) whole e
    (ap (λ (xs : List (List Bool)). pattern_lines at xs) (drop_next patterns at x there))

pub patterns_there : (text whole : List ℕ) (patterns : List (List Bool)) (at : ℕ) → length patterns ≤ at → text ++ pattern_lines at (drop at patterns) ≡ whole → text ≡ whole
patterns_there text whole patterns at le = all_there text (pattern_lines at (drop at patterns)) whole (ap (λ (xs : List (List Bool)). pattern_lines at xs) (drop_end patterns at le))
