-- A command as a value, and what holds of each that is read.
use Rattle.std.specs.Prelude.{◌≡◌, ◌≢◌, ◌≤◌, Some, None, false, option_map}
use Rattle.word_reading.specs.declared.options.TheConstants.{LEAST_BUDGET, LEAST_WIDTH, LEAST_WORKERS, MOST_BUDGET, MOST_DEPTH, MOST_MERGE, MOST_PERTURB, MOST_SHIFT, MOST_TRIES, MOST_WIDTH, MOST_WORK, MOST_WORKERS}
use Rattle.rm_base.specs.declared.settings.Settings.{Settings}
use Rattle.word_reading.specs.Words.{Asked, opt, check, demo, flat, tests, replay, convert, equal, judge, optcare, cut, sew, is_of_window, is_window_file}
use Rattle.word_reading.specs.declared.command.Command.{Command}
use Rattle.word_reading.specs.declared.command.Command.TheVariants.{Opt, Check, Demo, Flat, Tests, Replay, Convert, Equal, Judge, Optcare, Cut, Sew}

-- the command as a value: its names are their bytes
abbrev pub asked_of : Command → Asked
asked_of (Opt input output journal settings) = opt input.now output.now (option_map (λ j. j.now) journal) settings
asked_of (Check input journal output) = check input.now journal.now output.now
asked_of (Demo seed settings) = demo seed settings
asked_of (Flat input output) = flat input.now output.now
asked_of (Tests input journal output patterns) = tests input.now journal.now output.now patterns.now
asked_of (Replay input journal output) = replay input.now journal.now output.now
asked_of (Convert from to) = convert from.now to.now
asked_of (Equal first second proof settings) = equal first.now second.now proof.now settings
asked_of (Judge first second proof) = judge first.now second.now proof.now
asked_of (Optcare input care output vectors settings) = optcare input.now care.now output.now vectors.now settings
asked_of (Cut input width prefix shift) = cut input.now width prefix.now shift
asked_of (Sew input width prefix output shift) = sew input.now width prefix.now output.now shift

-- no two names of `opt`, `flat`, `replay`, `convert`, `equal` or `optcare` are alike, the last one of `tests` is none of the others,
-- the input of `cut` is no file of a window, and the input and the output of `sew` aren't alike, and neither is of a window
abbrev pub HasNamesApart : Asked → Type 0
HasNamesApart (opt input output None settings) = input ≢ output
HasNamesApart (opt input output (Some journal) settings) = (input ≢ output) × (input ≢ journal) × (output ≢ journal)
HasNamesApart (check input journal output) = Unit {0}
HasNamesApart (demo seed settings) = Unit {0}
HasNamesApart (flat input output) = input ≢ output
HasNamesApart (tests input journal output patterns) = (patterns ≢ input) × (patterns ≢ journal) × (patterns ≢ output)
HasNamesApart (replay input journal output) = (input ≢ journal) × (input ≢ output) × (journal ≢ output)
HasNamesApart (convert from to) = from ≢ to
HasNamesApart (equal first second proof settings) = (first ≢ second) × (first ≢ proof) × (second ≢ proof)
HasNamesApart (judge first second proof) = Unit {0}
HasNamesApart (optcare input care output vectors settings) = (input ≢ care) × (input ≢ output) × (input ≢ vectors) × (care ≢ output) × (care ≢ vectors) × (output ≢ vectors)
HasNamesApart (cut input width prefix shift) = is_window_file prefix input ≡ false
HasNamesApart (sew input width prefix output shift) = (input ≢ output) × (is_of_window prefix input ≡ false) × (is_of_window prefix output ≡ false)

pub record IsInRange (settings : Settings) : Type 0 where
  pub depth : settings.depth ≤ MOST_DEPTH
  pub least_budget : LEAST_BUDGET ≤ settings.budget
  pub most_budget : settings.budget ≤ MOST_BUDGET
  pub tries : settings.tries ≤ MOST_TRIES
  pub least_workers : LEAST_WORKERS ≤ settings.workers
  pub most_workers : settings.workers ≤ MOST_WORKERS
  pub merge : settings.merge ≤ MOST_MERGE
  pub perturb : settings.perturb ≤ MOST_PERTURB
  pub work : settings.work ≤ MOST_WORK

abbrev pub HasSettingsInRange : Asked → Type 0
HasSettingsInRange (opt input output journal settings) = IsInRange settings
HasSettingsInRange (check input journal output) = Unit {0}
HasSettingsInRange (demo seed settings) = IsInRange settings
HasSettingsInRange (flat input output) = Unit {0}
HasSettingsInRange (tests input journal output patterns) = Unit {0}
HasSettingsInRange (replay input journal output) = Unit {0}
HasSettingsInRange (convert from to) = Unit {0}
HasSettingsInRange (equal first second proof settings) = IsInRange settings
HasSettingsInRange (judge first second proof) = Unit {0}
HasSettingsInRange (optcare input care output vectors settings) = IsInRange settings
HasSettingsInRange (cut input width prefix shift) = (LEAST_WIDTH ≤ width) × (width ≤ MOST_WIDTH) × (shift ≤ MOST_SHIFT)
HasSettingsInRange (sew input width prefix output shift) = (LEAST_WIDTH ≤ width) × (width ≤ MOST_WIDTH) × (shift ≤ MOST_SHIFT)
