-- What `clap` found, as the values of options and the names of a command.
use Rattle.std.specs.Prelude.{◌^◌, ◌&&◌, ◌||◌, ℕ, Bool, not, Option, Some, None, is_some, List, [], ◌∷◌, map, if◌then◌else◌, nat_le, nat_lt, codes, option_map, option_and_then, unwrap_or}
use Rattle.std.specs.List.{list_all, list_any}
use Rattle.std.specs.Str.Parse.{digits_value, without_leading_plus}
use Rattle.clap.specs.ValueTests.{is_numeral}
use Rattle.clap.specs.Walk.{Row, Text, first_of, one_of}
use Rattle.rm_base.specs.declared.settings.Settings.{Settings}
use Rattle.word_reading.specs.Words.{Asked, CommandRule, OptionRule, is_word, option_rules, rule_of}
use Rattle.word_reading.specs.Inner.Program.{name_ids}
use Rattle.word_reading.specs.declared.options.Options.{Options}
use Rattle.word_reading.specs.declared.options.TheConstants.{USUAL_BUDGET, USUAL_DEPTH, USUAL_MERGE, USUAL_PERTURB, USUAL_SHIFT, USUAL_TRIES, USUAL_WORK, USUAL_WORKERS}
use Rattle.word_reading.specs.declared.positionals.Positionals.{Positionals}

-- the number of a text, where it has at most `bits` bits
abbrev pub number_in : ℕ → Text → Option ℕ
number_in bits text =
    let digits = without_leading_plus text in
    if is_numeral digits && nat_lt (digits_value 10 digits) (2 ^ bits) then Some (digits_value 10 digits) else None

abbrev pub number_at : ℕ → Text → List Row → Option ℕ
number_at bits id rows = option_and_then (number_in bits) (one_of id rows)

abbrev pub settings_in : List Row → Settings
settings_in rows = record {
  depth = unwrap_or (number_at 8 (codes "depth") rows) USUAL_DEPTH;
  budget = unwrap_or (number_at 32 (codes "budget") rows) USUAL_BUDGET;
  tries = unwrap_or (number_at 32 (codes "tries") rows) USUAL_TRIES;
  workers = unwrap_or (number_at 8 (codes "workers") rows) USUAL_WORKERS;
  merge = unwrap_or (number_at 8 (codes "merge") rows) USUAL_MERGE;
  perturb = unwrap_or (number_at 8 (codes "perturb") rows) USUAL_PERTURB;
  work = unwrap_or (number_at 32 (codes "work") rows) USUAL_WORK;
}

abbrev pub options_in : List Row → Options
options_in rows = record {
  settings = settings_in rows;
  shift = unwrap_or (number_at 32 (codes "shift") rows) USUAL_SHIFT;
}

-- the number, if it is in the range
abbrev pub within : ℕ → ℕ → ℕ → Option ℕ
within low high n = if nat_le low n && nat_le n high then Some n else None

-- what stands before the first that is missing
abbrev pub up_to_none : {X : Type 0} → List (Option X) → List X
up_to_none [] = []
up_to_none (None ∷ xs) = []
up_to_none (Some x ∷ xs) = x ∷ up_to_none xs

-- the names, under the ids of the positional arguments
abbrev pub names_in : List Row → List Text
names_in rows = up_to_none (map (λ id. first_of id rows) name_ids)

-- no option is there but those of these keys
abbrev pub has_only : List Text → List Row → Bool
has_only keys rows = list_all (λ (o : OptionRule). list_any (is_word o.key) keys || not (is_some (first_of o.key rows))) option_rules

abbrev pub made_by : CommandRule → List Row → Option Asked
made_by c rows = if has_only c.keys rows then c.made (names_in rows) (options_in rows) else None

abbrev pub command_in : Text → List Row → Option Asked
command_in w rows = option_and_then (λ c. made_by c rows) (rule_of w)

-- the texts of the names
abbrev pub texts_of : Positionals → List Text
texts_of n = up_to_none (map (option_map (λ s. s.now)) (n.first ∷ n.second ∷ n.third ∷ n.fourth ∷ []))
