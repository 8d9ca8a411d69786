-- What the rounds of a run have done so far.
use Rattle.std.specs.Prelude.{◌≡◌, ◌≤◌, ◌+◌, ◌-◌, ◌*◌, ℕ, Bool, List, None, Option}
use Rattle.rm_base.specs.Files.{Files}
use Rattle.rm_base.specs.declared.numbers.Fault.{Fault}
use Rattle.rm_base.specs.declared.settings.Made.{Made}
use Rattle.rm_base.specs.declared.settings.Settings.{Settings}
use Rattle.gate_net.specs.Net.{Net, wire_count}
use Rattle.gate_graph.specs.Circuit.{Circuit, live_nodes, net_of, pins_taken}
use Rattle.wire_edit.specs.Order.{IsTidy}
use Rattle.journal_text.specs.Runs.{AcceptedTo, HasAppended, made_by, none_made, records_text, steps_of}
use Rattle.journal_ranges.specs.Ranges.{AreFit}
use Rattle.journal_text.specs.declared.record.Record.{Record}
use Rattle.candidate_wires.specs.declared.candidate.Outcome.{Outcome}
use Rattle.journal_text.specs.Accepted.{Keeps}
use Rattle.rar_loop.specs.Ended.{AreFew, IsOptimised, allowed_to, turn_at}
use Rattle.rar_loop.specs.Sizes.{IsWithin}
use Rattle.rar_loop.specs.Rounds.{IsRun, is_settled, tries_of}
use Rattle.optimisation.specs.declared.rounds.Round.{Round}

-- a round makes at most 2 ^ 46 steps of a kind, and a wire goes before the next, but perhaps before the first; so the counts stay
-- within 64 bits
abbrev pub most_steps : ℕ
most_steps = 70368744177664

abbrev pub IsBounded : ℕ → ℕ → Type 0
IsBounded wires count = count + wires * most_steps ≤ 65538 * most_steps

pub record AreBounded (wires : ℕ) (made : Made) : Type 0 where
  pub adds : IsBounded wires made.adds
  pub fixes : IsBounded wires made.fixes
  pub local : IsBounded wires made.local

-- the steps of both
abbrev pub sum_of : Made → Made → Made
sum_of a b = record { adds = a.adds + b.adds; fixes = a.fixes + b.fixes; local = a.local + b.local }

-- accepted records lead from the first net to that of the graph; they are a run of rounds, to which so many tries are allowed, and
-- after which turns begin at that target, and their steps are counted
pub record HasRun (start : Net) (settings : Settings) (limit : ℕ) (g : Circuit) (records : List Record) (made : Made) (tries : ℕ) (settled : Bool) (turn : Option Fault) : Type 0 where
  pub accepted : AcceptedTo start records (net_of g)
  pub run : IsRun start (steps_of records) settings.depth limit tries settled
  pub turn_is : turn ≡ turn_at None start (steps_of records)
  pub tidy : IsTidy (net_of g)
  pub fewer : wire_count (net_of g) ≤ wire_count start
  pub within : pins_taken g + live_nodes g ≤ 1048576
  pub counted : made ≡ made_by none_made (steps_of records)
  pub bounded : AreBounded (wire_count (net_of g)) made

-- and their text was appended to the journal
pub record HasRecorded (start : Net) (settings : Settings) (round : Round) (old new : Option Files) (journal : List ℕ) : Type 0 where
  pub records : List Record
  pub run : HasRun start settings round.limit round.graph records round.made round.tries round.settled round.start
  pub written : HasAppended old new journal (records_text records)
  pub fit : AreFit records

-- one more call, with the tries that were left, which are counted on, and from the target where turns begin; where it is cut short
-- no more tries are allowed than were made
pub record HasGoneOn (settings : Settings) (closed : Circuit) (made : Made) (tries limit : ℕ) (turn : Option Fault) (round : Round) (old new : Option Files) (journal : List ℕ) : Type 0 where
  pub outcome : Outcome
  pub more : Made
  pub optimised : IsOptimised (net_of closed) (net_of round.graph) turn round.start settings.depth (allowed_to (limit - tries) outcome) outcome more old new journal
  pub keeps : Keeps (net_of closed) (net_of round.graph)
  pub within : IsWithin closed round.graph
  pub few : AreFew more
  pub tries_are : round.tries ≡ tries + tries_of outcome
  pub limit_is : round.limit ≡ tries + allowed_to (limit - tries) outcome
  pub some : tries_of outcome ≤ limit - tries
  pub settled_is : round.settled ≡ is_settled outcome
  pub made_are : round.made ≡ sum_of made more
