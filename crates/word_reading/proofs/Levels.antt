-- What clap refuses, and the rows that it gives, by the parts of the words.
use Rattle.std.proofs.Common.{◌≡◌, ◌∙◌, Bool, true, false, cond, refl, sym, ap, List, [], ◌∷◌, ◌++◌, Option, Some, None, is_some}
use Rattle.std.specs.Prelude.{if◌then◌else◌, codes}
use Rattle.std.specs.List.{AllByRecursion, fold}
use Rattle.std.specs.Str.{IsUtf8}
use Rattle.std.proofs.Math.Bool.{or-true}
use Rattle.clap.specs.Walk.{Row, Rule, Text, finished, has_row, nothing_held, rows_after, settled, walk, with_default}
use Rattle.clap.specs.Simple.{built, entered, matches_of}
use Rattle.clap.specs.Kinds.{Kinds, or_else}
use Rattle.clap.specs.Faults.{check_fault, default_fault, defaults_fault, entered_fault, fault_of, level_fault}
use Rattle.word_reading.specs.Inner.Judged.{accepted, clean, judged_parts, leaf, rules}
use Rattle.word_reading.specs.Words.{parts}
use Rattle.word_reading.specs.Inner.Program.{program}
use Rattle.word_reading.proofs.Runs.{IsSingles, runs_is}
use Rattle.word_reading.proofs.Walks.{idle_walk, walks}
use Rattle.word_reading.proofs.Leaves.{singles}

-- ---- no rule has a default

abbrev HasNone : Rule → Type 0
HasNone a = a.defaults ≡ []

same_rows : (b : Bool) (rows : List Row) → cond b rows rows ≡ rows
same_rows true rows = refl
same_rows false rows = refl

no_default : (a : Rule) (rows : List Row) → HasNone a → default_fault rows a ≡ []
no_default a rows none = rw (none, or-true (has_row a.id rows)) refl

no_default_row : (a : Rule) (rows : List Row) → HasNone a → with_default rows a ≡ rows
no_default_row a rows none = rw none (same_rows (has_row a.id rows) rows)

pub no_defaults : (c : List Rule) (rows : List Row) → AllByRecursion HasNone c → defaults_fault rows c ≡ []
unfolding defaults_fault
no_defaults [] rows none = refl
no_defaults (a ∷ c) rows none = rw (no_default a rows none.0, no_default_row a rows none.0) (no_defaults c rows none.1)

pub no_default_rows : (c : List Rule) (rows : List Row) → AllByRecursion HasNone c → fold with_default rows c ≡ rows
no_default_rows [] rows none = refl
no_default_rows (a ∷ c) rows none = rw (no_default_row a rows none.0) (no_default_rows c rows none.1)

-- ---- one level

abbrev pub level_rows : Text → List Rule → List Text → Option (List Row)
level_rows n c ws = if clean (level_fault (leaf n c) [] nothing_held ws false []) then Some (rows_after c [] ws) else None

level_by : (k f d e : Kinds) (rows last : List Row) → d ≡ [] → last ≡ rows → e ≡ []
    → cond (clean (or_else k (or_else f (or_else d e)))) (Some last) None ≡ cond (clean (or_else k f)) (Some rows) None
level_by [] [] d e rows last none same check = rw (none, same, check) refl
level_by [] (f ∷ fs) d e rows last none same check = refl
level_by (k ∷ ks) f d e rows last none same check = refl

pub level_is : (n : Text) (c : List Rule) → IsSingles c → AllByRecursion HasNone c → ((rows : List Row) → check_fault (leaf n c) rows false ≡ []) → (ws : List Text) → AllByRecursion IsUtf8 ws
    → level_rows n c ws ≡ judged_parts c 1 (parts None ws) []
level_is n c singles none free ws ok =
    let end = (walk c [] nothing_held ws).held in
    let rows = (settled c end).rows in
    level_by _ _ (defaults_fault rows c) (check_fault (leaf n c) (finished c end) false) rows (finished c end) (no_defaults c rows none) (no_default_rows c rows none)
    (free (finished c end))
    ∙ (sym (runs_is n c (idle_walk nothing_held 1) ws) ∙ (walks n c singles ws ok).idles nothing_held refl 1)

-- ---- the program

pub append_one : {X : Type 0} (xs : List X) (y : X) (ys : List X) → (xs ++ y ∷ []) ++ ys ≡ xs ++ y ∷ ys
append_one [] y ys = refl
append_one (x ∷ xs) y ys = ap (λ zs. x ∷ zs) (append_one xs y ys)

-- there is no subcommand to enter
fault_level : (ws : List Text) → fault_of program ws ≡ level_fault (leaf (codes "rambo") rules) [] nothing_held ws false []
fault_level ws = go (walk rules [] nothing_held ws).stopped
  where
    go : (o : Option (Text × List Text))
        → level_fault (built program).top [] nothing_held ws (is_some (entered (built program) o)) (entered_fault (built program) o) ≡ level_fault (leaf (codes "rambo") rules) [] nothing_held ws false []
    go None = refl
    go (Some p) = refl

free_rules : (rows : List Row) → check_fault (leaf (codes "rambo") rules) rows false ≡ []
free_rules rows = refl

no_rule_has_default : AllByRecursion HasNone rules
no_rule_has_default = (refl, (refl, (refl, (refl, (refl, (refl, (refl, (refl, (refl, (refl, (refl, (refl, tt))))))))))))

abbrev pub parsed_rows : List Text → Option (List Row)
parsed_rows ws = if clean (fault_of program ws) then Some (matches_of program ws) else None

pub parsed_is : (ws : List Text) → AllByRecursion IsUtf8 ws → parsed_rows ws ≡ accepted ws
parsed_is ws ok = ap (λ k. cond (clean k) (Some (rows_after rules [] ws)) None) (fault_level ws)
    ∙ level_is (codes "rambo") rules singles no_rule_has_default free_rules ws ok
