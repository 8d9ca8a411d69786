-- How the addition loop ends.
use Rattle.std.specs.Prelude.{◌≡◌, ◌⊎◌, ◌≤◌, ◌+◌, ℕ, false, List, Option, length}
use Rattle.rm_base.specs.Files.{Files}
use Rattle.rm_base.specs.declared.numbers.Fault.{Fault}
use Rattle.rm_base.specs.Work.{IsWorkedOff}
use Rattle.rm_base.specs.declared.settings.Made.{Made}
use Rattle.rm_base.specs.declared.settings.Settings.{Settings}
use Rattle.gate_net.specs.Net.{Net, wire_count}
use Rattle.wire_edit.specs.Order.{IsTidy}
use Rattle.wire_edit.specs.declared.steps.Step.{Step}
use Rattle.candidate_wires.specs.declared.candidate.Pair.{Pair}
use Rattle.candidate_wires.specs.declared.candidate.Outcome.{Outcome}
use Rattle.candidate_wires.specs.declared.candidate.Outcome.TheVariants.{Settled, TriesSpent}
use Rattle.candidate_wires.specs.Pairs.{ArePairsBefore, ArePairsInTurn}
use Rattle.candidate_wires.specs.Additions.{additions}
use Rattle.candidate_wires.specs.Tries.{AreTriesFrom, NoneGains, EachImproves, turn_after}
use Rattle.journal_ranges.specs.Ranges.{AreFit}
use Rattle.journal_text.specs.declared.record.Record.{Record}
use Rattle.journal_text.specs.Runs.{AcceptedTo, steps_of, none_made, made_by, HasAppended, records_text}
use Rattle.rar_loop.specs.Swept.{IsSwept}
use Rattle.rar_loop.specs.Trying.{IsClean}

-- the target at which turns begin after steps
abbrev pub turn_at : Option Fault → Net → List Step → Option Fault
turn_at start net steps = turn_after start (additions net steps)

-- no pair of a whole turn of the net at the end gains; the tries are those of the steps from the net at the beginning, and one for
-- each pair
pub record IsSettled (net after : Net) (start : Option Fault) (steps : List Step) (limit tries : ℕ) : Type 0 where
  pub pairs : List Pair
  pub all : ArePairsInTurn after (turn_at start net steps) pairs
  pub none : NoneGains after pairs
  pub counted : ℕ
  pub are_tries : AreTriesFrom start net steps counted
  pub sum : tries ≡ counted + length pairs
  pub within : tries ≤ limit

-- the same of the pairs before one of them, and the tries are used up
pub record IsSpent (net after : Net) (start : Option Fault) (steps : List Step) (limit tries : ℕ) (at : Pair) : Type 0 where
  pub pairs : List Pair
  pub before : ArePairsBefore after (turn_at start net steps) at pairs
  pub none : NoneGains after pairs
  pub counted : ℕ
  pub are_tries : AreTriesFrom start net steps counted
  pub sum : tries ≡ counted + length pairs
  pub used_up : tries ≡ limit

abbrev pub Ends : Net → Net → Option Fault → List Step → ℕ → Outcome → Type 0
Ends net after start steps limit (Settled tries) = IsSettled net after start steps limit tries
Ends net after start steps limit (TriesSpent tries at) = IsSpent net after start steps limit tries at

-- no try is left, or the work has reached the limit that is set
abbrev pub IsUsedUp : Settings → ℕ → ℕ → Type 0
IsUsedUp settings left work = (left ≡ 0) ⊎ IsWorkedOff settings work

-- how many tries a call might make: as many as it was given, or, where it was cut short, as many as it made
abbrev pub allowed_to : ℕ → Outcome → ℕ
allowed_to limit (Settled tries) = limit
allowed_to limit (TriesSpent tries at) = tries

-- where a call is cut short, it has used up the tries that it was given, or the work has reached its limit
abbrev pub IsCutShort : Settings → ℕ → Outcome → Type 0
IsCutShort settings work (Settled tries) = Unit {0}
IsCutShort settings work (TriesSpent tries at) = (tries ≡ settings.tries) ⊎ IsWorkedOff settings work

-- the records are accepted steps, which lead to a tidy and swept net of no more wires, and of which the last makes no Not; each
-- addition was the next pair in turn to gain, where the first turn began at that target, and then wires went; and how it ended
pub record IsImproved (net : Net) (start : Option Fault) (depth limit : ℕ) (records : List Record) (after : Net) (outcome : Outcome) : Type 0 where
  pub accepted : AcceptedTo net records after
  pub clean : IsClean false (steps_of records)
  pub fewer : wire_count after ≤ wire_count net
  pub tidy : IsTidy after
  pub swept : IsSwept after depth
  pub improves : EachImproves start (additions net (steps_of records))
  pub ends : Ends net after start (steps_of records) limit outcome

-- records that improve the net were made: their text was appended to the journal and nothing else changed, so many of their
-- steps are of each kind, and a further turn begins at that target
pub record IsOptimised (net after : Net) (start next : Option Fault) (depth limit : ℕ) (outcome : Outcome) (made : Made) (old new : Option Files) (journal : List ℕ) : Type 0 where
  pub records : List Record
  pub improved : IsImproved net start depth limit records after outcome
  pub next_is : next ≡ turn_at start net (steps_of records)
  pub written : HasAppended old new journal (records_text records)
  pub fit : AreFit records
  pub counted : made ≡ made_by none_made (steps_of records)

-- the counts are far from the end of their type
pub record AreFew (made : Made) : Type 0 where
  pub adds : made.adds ≤ 35184372088832
  pub fixes : made.fixes ≤ 35184372088832
  pub local : made.local ≤ 35184372088832
