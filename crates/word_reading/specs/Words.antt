-- What the words ask for: how they are parted into names and options, and what each command makes of them.
use Rattle.std.specs.Prelude.{◌^◌, ◌-◌, ◌==◌, ◌&&◌, ◌||◌, ℕ, Bool, true, false, not, List, [], ◌∷◌}
use Rattle.std.specs.Prelude.{map, Option, Some, None, if◌then◌else◌, nat_le, nat_lt, codes, length}
use Rattle.std.specs.Prelude.{option_map, option_and_then, find}
use Rattle.std.specs.List.{after_first, before_first, list_all, list_any}
use Rattle.std.specs.Char.{digit_value}
use Rattle.std.specs.Str.{bytes_eq}
use Rattle.std.specs.Str.Parse.{digits_value, without_leading_plus}
use Rattle.rm_base.specs.declared.settings.Settings.{Settings}
use Rattle.rm_base.specs.Words.{Word}
use Rattle.word_reading.specs.declared.options.Options.{Options}
use Rattle.word_reading.specs.declared.options.TheConstants.{LEAST_BUDGET, LEAST_WIDTH, LEAST_WORKERS, MOST_BUDGET, MOST_DEPTH, MOST_MERGE, MOST_PERTURB, MOST_SHIFT, MOST_TRIES, MOST_WIDTH, MOST_WORK, MOST_WORKERS, USUAL_BUDGET, USUAL_DEPTH, USUAL_MERGE, USUAL_PERTURB, USUAL_SHIFT, USUAL_TRIES, USUAL_WORK, USUAL_WORKERS}

abbrev pub is_word : Word → Word → Bool
is_word = bytes_eq

-- a hyphen (45) is the first byte
abbrev pub begins_with_hyphen : Word → Bool
begins_with_hyphen [] = false
begins_with_hyphen (b ∷ bs) = b == 45

-- it begins with a hyphen and isn't the hyphen alone
abbrev pub is_option : Word → Bool
is_option (b ∷ next ∷ bs) = b == 45
is_option _ = false

-- ---- names and options

-- a name, or an option's key with its value
pub data Part : Type 0 where
  name : Word → Part
  setting : Word → Word → Part

abbrev pub first_then : Part → Option (List Part) → Option (List Part)
first_then p = option_map (λ ps. p ∷ ps)

-- what follows the two hyphens of an option
abbrev pub after_hyphens : Word → Option Word
after_hyphens (a ∷ b ∷ bs) = if a == 45 && b == 45 then Some bs else None
after_hyphens _ = None

-- the text has an equals sign (61)
abbrev pub has_equals : Word → Bool
has_equals text = list_any (λ b. b == 61) text

-- what stands before the first equals sign, or all
abbrev pub key_of : Word → Word
key_of text = before_first (λ b. b == 61) text

-- an option `--key=value`, or `--key` that waits for its value
abbrev pub option_parts : Option Word → Option (List Part) → (Word → Option (List Part)) → Option (List Part)
option_parts None rest waiting = None
option_parts (Some text) rest waiting =
    if has_equals text then first_then (setting (key_of text) (after_first (λ b. b == 61) text)) rest
    else waiting (key_of text)

-- the parts of the words, where `waits` is the key of an option that waits for its value
unfoldable pub parts : Option Word → List Word → Option (List Part)
parts None [] = Some []
parts (Some key) [] = None
parts (Some key) (w ∷ ws) =
    if begins_with_hyphen w then None else first_then (setting key w) (parts None ws)
parts None (w ∷ ws) =
    if is_word w (codes "--") then Some (map name ws)
    else if is_option w
    then option_parts (after_hyphens w) (parts None ws) (λ key. parts (Some key) ws)
    else first_then (name w) (parts None ws)

unfoldable pub names : List Part → List Word
names [] = []
names (name w ∷ ps) = w ∷ names ps
names (setting key v ∷ ps) = names ps

-- the values that are given for a key
unfoldable pub given : Word → List Part → List Word
given key [] = []
given key (name w ∷ ps) = given key ps
given key (setting k v ∷ ps) = if is_word k key then v ∷ given key ps else given key ps

-- every option has one of the keys
unfoldable pub has_keys : List Word → List Part → Bool
has_keys keys [] = true
has_keys keys (name w ∷ ps) = has_keys keys ps
has_keys keys (setting k v ∷ ps) = list_any (is_word k) keys && has_keys keys ps

-- ---- values

-- an optional plus sign and decimal digits, from `low` to `high`
abbrev pub number : ℕ → ℕ → Word → Option ℕ
number low high text =
    let digits = without_leading_plus text in
    let n = digits_value 10 digits in
    if nat_lt 0 (length digits) && list_all (λ d. nat_lt (digit_value d) 10) digits && nat_le low n && nat_le n high
    then Some n else None

-- an option stands at most once; where it doesn't stand it has its default
abbrev pub at_most_once : ℕ → ℕ → ℕ → List Word → Option ℕ
at_most_once low high default [] = Some default
at_most_once low high default (v ∷ []) = number low high v
at_most_once low high default (v ∷ w ∷ ws) = None

-- ---- the options

-- an option: its key, its least and greatest value, and its value where it isn't given
pub record OptionRule : Type 0 where
  pub key : Word
  pub least : ℕ
  pub most : ℕ
  pub usual : ℕ

abbrev pub depth_rule : OptionRule
depth_rule = record { key = codes "depth"; least = 0; most = MOST_DEPTH; usual = USUAL_DEPTH }

abbrev pub budget_rule : OptionRule
budget_rule = record { key = codes "budget"; least = LEAST_BUDGET; most = MOST_BUDGET; usual = USUAL_BUDGET }

abbrev pub tries_rule : OptionRule
tries_rule = record { key = codes "tries"; least = 0; most = MOST_TRIES; usual = USUAL_TRIES }

abbrev pub workers_rule : OptionRule
workers_rule = record { key = codes "workers"; least = LEAST_WORKERS; most = MOST_WORKERS; usual = USUAL_WORKERS }

abbrev pub merge_rule : OptionRule
merge_rule = record { key = codes "merge"; least = 0; most = MOST_MERGE; usual = USUAL_MERGE }

abbrev pub perturb_rule : OptionRule
perturb_rule = record { key = codes "perturb"; least = 0; most = MOST_PERTURB; usual = USUAL_PERTURB }

abbrev pub work_rule : OptionRule
work_rule = record { key = codes "work"; least = 0; most = MOST_WORK; usual = USUAL_WORK }

abbrev pub shift_rule : OptionRule
shift_rule = record { key = codes "shift"; least = 0; most = MOST_SHIFT; usual = USUAL_SHIFT }

abbrev pub option_rules : List OptionRule
option_rules = depth_rule ∷ budget_rule ∷ tries_rule ∷ workers_rule ∷ merge_rule ∷ perturb_rule ∷ work_rule ∷ shift_rule ∷ []

abbrev pub setting_keys : List Word
setting_keys = map (λ (o : OptionRule). o.key) option_rules

-- the options of a run
abbrev pub run_keys : List Word
run_keys = depth_rule.key ∷ budget_rule.key ∷ tries_rule.key ∷ workers_rule.key ∷ merge_rule.key ∷ perturb_rule.key ∷ work_rule.key ∷ []

-- the option of windows
abbrev pub window_keys : List Word
window_keys = shift_rule.key ∷ []

-- the options of a question that is refuted, and else searched
abbrev pub question_keys : List Word
question_keys = depth_rule.key ∷ budget_rule.key ∷ []

-- the value of an option
abbrev pub value_in : List Part → OptionRule → Option ℕ
value_in ps o = at_most_once o.least o.most o.usual (given o.key ps)

-- the seven settings, where each is there
abbrev pub together : Option ℕ → Option ℕ → Option ℕ → Option ℕ → Option ℕ → Option ℕ → Option ℕ → Option Settings
together depths budgets all_tries all_workers merges perturbs works =
    option_and_then (λ depth. option_and_then (λ budget. option_and_then (λ tries. option_and_then (λ workers. option_and_then (λ merge. option_and_then (λ perturb. option_map (λ work.
    record { depth = depth; budget = budget; tries = tries; workers = workers; merge = merge; perturb = perturb; work = work })
    works) perturbs) merges) all_workers) all_tries) budgets) depths

abbrev pub settings_of : List Part → Option Settings
settings_of ps = together (value_in ps depth_rule) (value_in ps budget_rule) (value_in ps tries_rule) (value_in ps workers_rule) (value_in ps merge_rule) (value_in ps perturb_rule) (value_in ps work_rule)

-- the settings and what the other option says, where each is there
abbrev pub all_together : Option Settings → Option ℕ → Option Options
all_together all_settings shifts =
    option_and_then (λ settings. option_map (λ shift. record { settings = settings; shift = shift }) shifts) all_settings

abbrev pub options_of : List Part → Option Options
options_of ps = all_together (settings_of ps) (value_in ps shift_rule)

-- ---- the commands

-- a command with its names and its settings: of `opt` the journal's name may be left out; of `cut` and `sew` the width of windows, and the number
-- that `--shift` says
pub data Asked : Type 0 where
  opt : Word → Word → Option Word → Settings → Asked
  check : Word → Word → Word → Asked
  demo : ℕ → Settings → Asked
  flat : Word → Word → Asked
  tests : Word → Word → Word → Word → Asked
  replay : Word → Word → Word → Asked
  convert : Word → Word → Asked
  equal : Word → Word → Word → Settings → Asked
  judge : Word → Word → Word → Asked
  optcare : Word → Word → Word → Word → Settings → Asked
  cut : Word → ℕ → Word → ℕ → Asked
  sew : Word → ℕ → Word → Word → ℕ → Asked

-- no two of the names are alike
abbrev pub are_different : List Word → Bool
are_different [] = true
are_different (a ∷ bs) = not (list_any (is_word a) bs) && are_different bs

-- two or three names, pairwise different
abbrev pub opt_by : List Word → Options → Option Asked
opt_by (a ∷ b ∷ []) o = if are_different (a ∷ b ∷ []) then Some (opt a b None o.settings) else None
opt_by (a ∷ b ∷ c ∷ []) o = if are_different (a ∷ b ∷ c ∷ []) then Some (opt a b (Some c) o.settings) else None
opt_by _ o = None

-- three names
abbrev pub check_by : List Word → Options → Option Asked
check_by (a ∷ b ∷ c ∷ []) o = Some (check a b c)
check_by _ o = None

-- a number
abbrev pub demo_by : List Word → Options → Option Asked
demo_by (a ∷ []) o = option_map (λ seed. demo seed o.settings) (number 0 (2 ^ 64 - 1) a)
demo_by _ o = None

-- two different names
abbrev pub flat_by : List Word → Options → Option Asked
flat_by (a ∷ b ∷ []) o = if are_different (a ∷ b ∷ []) then Some (flat a b) else None
flat_by _ o = None

-- four names, of which the last is none of the others
abbrev pub tests_by : List Word → Options → Option Asked
tests_by (a ∷ b ∷ c ∷ d ∷ []) o = if not (list_any (is_word d) (a ∷ b ∷ c ∷ [])) then Some (tests a b c d) else None
tests_by _ o = None

-- three names, pairwise different
abbrev pub replay_by : List Word → Options → Option Asked
replay_by (a ∷ b ∷ c ∷ []) o = if are_different (a ∷ b ∷ c ∷ []) then Some (replay a b c) else None
replay_by _ o = None

-- two different names
abbrev pub convert_by : List Word → Options → Option Asked
convert_by (a ∷ b ∷ []) o = if are_different (a ∷ b ∷ []) then Some (convert a b) else None
convert_by _ o = None

-- three names, pairwise different
abbrev pub equal_by : List Word → Options → Option Asked
equal_by (a ∷ b ∷ c ∷ []) o = if are_different (a ∷ b ∷ c ∷ []) then Some (equal a b c o.settings) else None
equal_by _ o = None

-- three names
abbrev pub judge_by : List Word → Options → Option Asked
judge_by (a ∷ b ∷ c ∷ []) o = Some (judge a b c)
judge_by _ o = None

-- four names, pairwise different
abbrev pub optcare_by : List Word → Options → Option Asked
optcare_by (a ∷ b ∷ c ∷ d ∷ []) o = if are_different (a ∷ b ∷ c ∷ d ∷ []) then Some (optcare a b c d o.settings) else None
optcare_by _ o = None

-- what follows a prefix of the name, if it has that
abbrev pub behind : Word → Word → Option Word
behind [] text = Some text
behind (p ∷ ps) [] = None
behind (p ∷ ps) (b ∷ bs) = if b == p then behind ps bs else None

-- decimal digits, at least one, and then the ending
abbrev pub has_number_then : Word → Word → Bool
has_number_then ending [] = false
has_number_then ending (b ∷ bs) = nat_lt (digit_value b) 10 && (is_word bs ending || has_number_then ending bs)

abbrev pub is_numbered : Word → Option Word → Bool
is_numbered ending None = false
is_numbered ending (Some rest) = has_number_then ending rest

-- the name is the prefix, a number and `.blif`
abbrev pub is_window_file : Word → Word → Bool
is_window_file prefix file = is_numbered (codes ".blif") (behind prefix file)

-- the name is the prefix, a number and `.journal`
abbrev pub is_window_journal : Word → Word → Bool
is_window_journal prefix file = is_numbered (codes ".journal") (behind prefix file)

-- the name is that of a window's file, or of a window's journal
abbrev pub is_of_window : Word → Word → Bool
is_of_window prefix file = is_window_file prefix file || is_window_journal prefix file

-- a name, a number and a prefix; the name is none of those of the windows' files
abbrev pub cut_by : List Word → Options → Option Asked
cut_by (a ∷ b ∷ c ∷ []) o = if is_window_file c a then None else option_map (λ width. cut a width c o.shift) (number LEAST_WIDTH MOST_WIDTH b)
cut_by _ o = None

-- the names of the input and of the output aren't alike, and neither is that of a window's file or journal
abbrev pub are_outside : Word → Word → Word → Bool
are_outside prefix a d = not (is_word a d) && not (is_of_window prefix a) && not (is_of_window prefix d)

-- a name, a number, a prefix and a name
abbrev pub sew_by : List Word → Options → Option Asked
sew_by (a ∷ b ∷ c ∷ d ∷ []) o = if are_outside c a d then option_map (λ width. sew a width c d o.shift) (number LEAST_WIDTH MOST_WIDTH b) else None
sew_by _ o = None

-- the word of a command, the keys of its options, and what its names and options ask for
pub record CommandRule : Type 0 where
  pub word : Word
  pub keys : List Word
  pub made : List Word → Options → Option Asked

abbrev pub command_rules : List CommandRule
command_rules =
    record { word = codes "opt"; keys = run_keys; made = opt_by }
    ∷ record { word = codes "check"; keys = []; made = check_by }
    ∷ record { word = codes "demo"; keys = run_keys; made = demo_by }
    ∷ record { word = codes "flat"; keys = []; made = flat_by }
    ∷ record { word = codes "tests"; keys = []; made = tests_by }
    ∷ record { word = codes "replay"; keys = []; made = replay_by }
    ∷ record { word = codes "convert"; keys = []; made = convert_by }
    ∷ record { word = codes "equal"; keys = question_keys; made = equal_by }
    ∷ record { word = codes "judge"; keys = []; made = judge_by }
    ∷ record { word = codes "optcare"; keys = question_keys; made = optcare_by }
    ∷ record { word = codes "cut"; keys = window_keys; made = cut_by }
    ∷ record { word = codes "sew"; keys = window_keys; made = sew_by }
    ∷ []

-- the command of a word
abbrev pub rule_of : Word → Option CommandRule
rule_of w = find (λ (c : CommandRule). is_word w c.word) command_rules

abbrev pub asked_by : CommandRule → List Part → Option Asked
asked_by c ps = if has_keys c.keys ps then option_and_then (c.made (names ps)) (options_of ps) else None

-- what the words ask for, or None where they are refused
abbrev pub asked : List Word → Option Asked
asked [] = None
asked (w ∷ ws) = option_and_then (λ c. option_and_then (asked_by c) (parts None ws)) (rule_of w)
