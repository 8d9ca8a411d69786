-- A turn of perturbation: targets are exchanged for wires, so that the net has no more than before and is another one.
use Rattle.std.specs.Prelude.{◌≡◌, ◌≤◌, ◌++◌, ◌∷◌, [], ℕ, suc, Bool, true, List, None, Option, Some}
use Rattle.rm_base.specs.Files.{Files}
use Rattle.rm_base.specs.declared.numbers.Fault.{Fault}
use Rattle.rm_base.specs.declared.settings.Made.{Made}
use Rattle.gate_net.specs.Net.{Net, gate_count, wire_count}
use Rattle.wire_edit.specs.Order.{IsTidy}
use Rattle.wire_edit.specs.declared.steps.Step.{Step}
use Rattle.candidate_wires.specs.declared.candidate.Candidate.{Candidate}
use Rattle.candidate_wires.specs.Additions.{additions, net_after}
use Rattle.candidate_wires.specs.Pairs.{is_before}
use Rattle.journal_ranges.specs.Ranges.{AreFit}
use Rattle.journal_text.specs.declared.record.Record.{Record}
use Rattle.journal_text.specs.Runs.{AcceptedTo, AreRemovals, HasAppended, made_by, none_made, records_text, steps_of}
use Rattle.rar_loop.specs.Swept.{IsSwept}

-- one addition, and behind it the fix of that target: a swept net of no more wires and no more gates
pub record IsExchange (net : Net) (target : Fault) (depth : ℕ) (steps : List Step) (after : Net) : Type 0 where
  pub candidate : Candidate
  pub addition : additions net steps ≡ record { before = net; candidate = candidate; target = Some target; after = after } ∷ []
  pub ends : net_after net steps ≡ after
  pub wires : wire_count after ≤ wire_count net
  pub gates : gate_count after ≤ gate_count net
  pub swept : IsSwept after depth

-- whether the target comes behind the last one, by gate and position
abbrev pub comes_behind : Option Fault → Fault → Bool
comes_behind None target = true
comes_behind (Some last) target = is_before target last

-- exchanges one after another, of targets in ascending order: their steps, the net at the end, the last target, and how many
pub data AreExchanges (net : Net) (depth : ℕ) : List Step → Net → Option Fault → ℕ → Type 0 where
  none : AreExchanges net depth [] net None 0
  more :
      {steps : List Step} {mid : Net} {last : Option Fault} {count : ℕ} → AreExchanges net depth steps mid last count → (target : Fault) → comes_behind last target ≡ true → (next : List Step) (after : Net)
      → IsExchange mid target depth next after → AreExchanges net depth (steps ++ next) after (Some target) (suc count)

-- a turn of a net: removals, and then exchanges, each of at least one try
pub record IsTurn (net : Net) (depth limit : ℕ) (steps : List Step) (after : Net) (tries : ℕ) : Type 0 where
  pub first : List Step
  pub more : List Step
  pub are : steps ≡ first ++ more
  pub removals : AreRemovals first
  pub last : Option Fault
  pub count : ℕ
  pub exchanges : AreExchanges (net_after net first) depth more after last count
  pub tried : count ≤ tries
  pub within : tries ≤ limit

-- a turn of accepted steps, which are recorded with their trees and counted; nothing else changed
pub record HasPerturbed (net after : Net) (depth limit tries : ℕ) (made : Made) (old new : Option Files) (journal : List ℕ) : Type 0 where
  pub records : List Record
  pub accepted : AcceptedTo net records after
  pub turn : IsTurn net depth limit (steps_of records) after tries
  pub fewer : wire_count after ≤ wire_count net
  pub tidy : IsTidy after
  pub written : HasAppended old new journal (records_text records)
  pub fit : AreFit records
  pub counted : made ≡ made_by none_made (steps_of records)
