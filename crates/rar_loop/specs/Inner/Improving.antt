-- What the addition loop keeps.
use Rattle.std.specs.Prelude.{◌≡◌, ◌≤◌, ◌+◌, ◌-◌, ◌*◌, ℕ, false, List, Option, length}
use Rattle.rm_base.specs.Files.{Files}
use Rattle.rm_base.specs.declared.numbers.Fault.{Fault}
use Rattle.rm_base.specs.declared.settings.Made.{Made}
use Rattle.gate_net.specs.Net.{Net, wire_count}
use Rattle.gate_graph.specs.Circuit.{Circuit, net_of}
use Rattle.wire_edit.specs.Order.{IsTidy}
use Rattle.candidate_wires.specs.declared.candidate.Outcome.{Outcome}
use Rattle.candidate_wires.specs.Additions.{additions}
use Rattle.candidate_wires.specs.Tries.{AreTriesFrom, EachImproves}
use Rattle.journal_ranges.specs.Ranges.{AreFit}
use Rattle.journal_text.specs.declared.record.Record.{Record}
use Rattle.journal_text.specs.Runs.{AcceptedTo, AreRemovals, HasAppended, IsStopped, made_by, none_made, records_text, steps_of}
use Rattle.rar_loop.specs.Ended.{IsOptimised, allowed_to, turn_at}
use Rattle.rar_loop.specs.Sizes.{IsWithin, most_steps}
use Rattle.rar_loop.specs.Swept.{IsSwept}
use Rattle.rar_loop.specs.Trying.{IsClean}

-- tidied and swept by accepted removals, as few as a trial has room for
pub record HasBegun (before : Circuit) (depth : ℕ) (graph : Circuit) (records : List Record) : Type 0 where
  pub accepted : AcceptedTo (net_of before) records (net_of graph)
  pub removals : AreRemovals (steps_of records)
  pub fewer : wire_count (net_of graph) ≤ wire_count (net_of before)
  pub tidy : IsTidy (net_of graph)
  pub swept : IsSwept (net_of graph) depth
  pub within : IsWithin before graph
  pub few : length records ≤ most_steps

-- accepted steps to a tidy and swept net of no more wires; each addition was the next pair in turn to gain; so many tries so far
pub record HasImproved (net : Net) (start : Option Fault) (depth : ℕ) (after : Net) (records : List Record) (tries : ℕ) : Type 0 where
  pub accepted : AcceptedTo net records after
  pub clean : IsClean false (steps_of records)
  pub fewer : wire_count after ≤ wire_count net
  pub tidy : IsTidy after
  pub swept : IsSwept after depth
  pub improves : EachImproves start (additions net (steps_of records))
  pub are_tries : AreTriesFrom start net (steps_of records) tries

-- the loop at a graph: the records so far, which the journal has and the counts count; it takes no more than the graph at first, and
-- so many tries are left, and the turn begins at that target
pub record IsUnderWay (before : Circuit) (start turn : Option Fault) (depth limit left : ℕ) (mid : Circuit) (made : Made) (old now : Option Files) (name : List ℕ) : Type 0 where
  pub records : List Record
  pub improved : HasImproved (net_of before) start depth (net_of mid) records (limit - left)
  pub turn_is : turn ≡ turn_at start (net_of before) (steps_of records)
  pub written : HasAppended old now name (records_text records)
  pub fit : AreFit records
  pub counts : made ≡ made_by none_made (steps_of records)
  pub within : IsWithin before mid
  pub left_within : left ≤ limit
  pub few : length records + wire_count (net_of mid) * most_steps ≤ (wire_count (net_of before) + 1) * most_steps

-- the loop at its end
pub record IsThrough (before : Circuit) (start turn : Option Fault) (depth limit : ℕ) (last : Circuit) (outcome : Outcome) (made : Made) (old now : Option Files) (name : List ℕ) : Type 0 where
  pub optimised : IsOptimised (net_of before) (net_of last) start turn depth limit outcome made old now name
  pub within : IsWithin before last

-- some run that began at a graph of few wires has come here
abbrev pub IsHere : Option Fault → ℕ → ℕ → Circuit → Made → Option Files → List ℕ → Type 0
IsHere turn depth limit mid made now name =
    (before : Circuit) × ((old : Option Files) × ((wire_count (net_of before) ≤ 1048576) × IsUnderWay before turn turn depth limit limit mid made old now name))

-- from wherever a run that has come here began, it has come through
abbrev pub ComesThrough : Option Fault → Option Fault → ℕ → ℕ → Circuit → Made → Option Files → Circuit → Outcome → Made → Option Files → List ℕ → Type 0
ComesThrough start turn depth limit mid made now last outcome counted then name =
    (before : Circuit) (old : Option Files) → IsUnderWay before start start depth limit limit mid made old now name → IsThrough before start turn depth (allowed_to limit outcome) last outcome counted old then name

-- or it has stopped
abbrev pub StopsFrom : Option Fault → ℕ → ℕ → Circuit → Made → Option Files → Option Files → List ℕ → Type 0
StopsFrom start depth limit mid made now then name =
    (before : Circuit) (old : Option Files) → IsUnderWay before start start depth limit limit mid made old now name → IsStopped (net_of before) old then name

-- a run whose sweep is done has come through
abbrev pub SweepComesThrough : Option Fault → Option Fault → ℕ → ℕ → Circuit → List Record → Option Files → Circuit → Outcome → Made → Option Files → List ℕ → Type 0
SweepComesThrough start turn depth limit swept records now last outcome counted then name =
    (before : Circuit) → HasBegun before depth swept records → IsThrough before start turn depth (allowed_to limit outcome) last outcome counted now then name
