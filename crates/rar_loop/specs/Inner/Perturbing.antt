-- A turn of perturbation on its way.
use Rattle.std.specs.Prelude.{◌≡◌, ◌≤◌, ◌<◌, ◌+◌, ◌*◌, ◌⊎◌, ◌++◌, ℕ, List, None, Option, Some, length}
use Rattle.rm_base.specs.Files.{Files}
use Rattle.rm_base.specs.declared.numbers.Fault.{Fault}
use Rattle.rm_base.specs.declared.settings.Made.{Made}
use Rattle.gate_net.specs.Net.{Net, wire_count}
use Rattle.gate_net.specs.Values.{HasPin}
use Rattle.gate_graph.specs.Circuit.{Circuit, net_of}
use Rattle.wire_edit.specs.Order.{IsTidy}
use Rattle.wire_edit.specs.declared.steps.Step.{Step}
use Rattle.candidate_wires.specs.Additions.{net_after}
use Rattle.journal_ranges.specs.Ranges.{AreFit}
use Rattle.journal_text.specs.declared.record.Record.{Record}
use Rattle.journal_text.specs.Runs.{AcceptedTo, AreRemovals, HasAppended, IsStopped, made_by, none_made, records_text, steps_of}
use Rattle.rar_loop.specs.Perturbed.{AreExchanges}
use Rattle.rar_loop.specs.Sizes.{IsWithin, most_steps}

-- the last target comes before the place
abbrev pub IsPast : Option Fault → ℕ → ℕ → Type 0
IsPast None gate position = Unit {0}
IsPast (Some last) gate position = (last.gate.0 < gate) ⊎ ((last.gate.0 ≡ gate) × (last.position < position))

-- the turn at a graph, before the target at a place, with so many tries left: the records so far, which the journal has and the counts
-- count, are removals and then exchanges
pub record IsPerturbing (before : Circuit) (depth limit left gate position : ℕ) (mid : Circuit) (made : Made) (old now : Option Files) (name : List ℕ) : Type 0 where
  pub records : List Record
  pub accepted : AcceptedTo (net_of before) records (net_of mid)
  pub first : List Step
  pub more : List Step
  pub are : steps_of records ≡ first ++ more
  pub removals : AreRemovals first
  pub last : Option Fault
  pub count : ℕ
  pub exchanges : AreExchanges (net_after (net_of before) first) depth more (net_of mid) last count
  pub past : IsPast last gate position
  pub tried : count + left ≤ limit
  pub fewer : wire_count (net_of mid) ≤ wire_count (net_of before)
  pub tidy : IsTidy (net_of mid)
  pub within : IsWithin before mid
  pub written : HasAppended old now name (records_text records)
  pub fit : AreFit records
  pub counts : made ≡ made_by none_made (steps_of records)
  pub few : length records ≤ (1 + count) * most_steps

-- some turn that began has come here
abbrev pub IsOnItsWay : ℕ → ℕ → ℕ → ℕ → ℕ → Circuit → Made → Option Files → List ℕ → Type 0
IsOnItsWay depth limit left gate position mid made now name =
    (before : Circuit) × ((old : Option Files) × IsPerturbing before depth limit left gate position mid made old now name)

-- the place of a turn: the tries that are left, and the gate and the position of the next target
pub record At : Type 0 where
  pub left : ℕ
  pub gate : ℕ
  pub position : ℕ

-- from wherever a turn that has come to the one place began, it has come to the other
abbrev pub PerturbsOn : ℕ → ℕ → At → Circuit → Made → Option Files → At → Circuit → Made → Option Files → List ℕ → Type 0
PerturbsOn depth limit from mid made now to last counted then name =
    (before : Circuit) (old : Option Files) → IsPerturbing before depth limit from.left from.gate from.position mid made old now name
    → IsPerturbing before depth limit to.left to.gate to.position last counted old then name

-- or it has stopped
abbrev pub StopsOn : ℕ → ℕ → At → Circuit → Made → Option Files → Option Files → List ℕ → Type 0
StopsOn depth limit from mid made now then name =
    (before : Circuit) (old : Option Files) → IsPerturbing before depth limit from.left from.gate from.position mid made old now name → IsStopped (net_of before) old then name

-- a target at that place of the net, or there is none
abbrev pub IsTargetAt : Net → ℕ → ℕ → Option Fault → Type 0
IsTargetAt net gate position None = Unit {0}
IsTargetAt net gate position (Some target) = HasPin net target × ((target.gate.0 ≡ gate) × (target.position ≡ position))
