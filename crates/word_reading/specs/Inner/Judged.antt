-- What clap makes of the words, by their parts: each use of an argument is judged in turn.
use Rattle.std.specs.Prelude.{◌+◌, ℕ, Bool, true, false, min, List, [], ◌∷◌, Option, Some, None}
use Rattle.std.specs.Prelude.{if◌then◌else◌, option_and_then}
use Rattle.clap.specs.Lexer.{usize_max}
use Rattle.clap.specs.Walk.{Row, Rule, Text, arg_by_index, arg_by_long, used}
use Rattle.clap.specs.Simple.{Shape, built, new_shape}
use Rattle.clap.specs.Kinds.{Kinds}
use Rattle.clap.specs.Faults.{use_fault}
use Rattle.word_reading.specs.Words.{Part, name, setting, parts}
use Rattle.word_reading.specs.Inner.Program.{program}

abbrev pub clean : Kinds → Bool
clean [] = true
clean (k ∷ ks) = false

-- a command as it is built
abbrev pub leaf : Text → List Rule → Shape
leaf n c = record (new_shape n) {
  rules = c;
  no_binary_name = true;
  disable_help_flag = true;
  disable_help_subcommand = true;
  is_built = true;
}

-- ---- what the parts of the words do to the rows

abbrev pub judged_use : Option Rule → Text → List Row → (List Row → Option (List Row)) → Option (List Row)
judged_use None v rows next = None
judged_use (Some a) v rows next = if clean (use_fault false a (v ∷ []) rows) then next (used a (v ∷ []) rows) else None

unfoldable pub judged : List Rule → ℕ → List Row → List Part → Option (List Row)
judged c p rows [] = Some rows
judged c p rows (name w ∷ ps) = judged_use (arg_by_index c p) w rows (λ after. judged c (min (p + 1) usize_max) after ps)
judged c p rows (setting k v ∷ ps) = judged_use (arg_by_long c k) v rows (λ after. judged c p after ps)

-- the rows of the parts of the words
abbrev pub judged_parts : List Rule → ℕ → Option (List Part) → List Row → Option (List Row)
judged_parts c p ps rows = option_and_then (judged c p rows) ps

-- the rules of the words behind the command's own
abbrev pub rules : List Rule
rules = (built program).top.rules

-- the rows of these words
abbrev pub accepted : List Text → Option (List Row)
accepted ws = judged_parts rules 1 (parts None ws) []
