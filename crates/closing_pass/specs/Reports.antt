-- What a closing pass leaves: its steps, and a verdict for each fault of the net.
use Rattle.std.specs.Prelude.{◌≡◌, ◌≤◌, ◌+◌, ◌^◌, ℕ, Bool, List, [], Option, Some, map, slice_get}
use Rattle.std.specs.List.{AllByRecursion}
use Rattle.gate_graph.specs.Circuit.{Circuit, live_nodes, pins_taken}
use Rattle.gate_graph.specs.Holds.{pins_held}
use Rattle.gate_net.specs.Faults.{IsTest, assigned, faults_of}
use Rattle.gate_net.specs.Net.{Net, source_count, wire_count}
use Rattle.gate_net.specs.Values.{Detects}
use Rattle.journal_text.specs.Runs.{AcceptedTo, AreRemovals, HasAppended, made_by, none_made, records_text, steps_of}
use Rattle.journal_ranges.specs.Ranges.{AreFit}
use Rattle.journal_text.specs.declared.record.Record.{Record}
use Rattle.podem.specs.Verdicts.{IsSpent}
use Rattle.podem.specs.declared.verdict.Verdict.{Verdict}
use Rattle.podem.specs.declared.verdict.Verdict.TheVariants.{Detected, Refuted, Spent}
use Rattle.refutation.specs.declared.items.Item.{Item}
use Rattle.rm_base.specs.Files.{Files}
use Rattle.rm_base.specs.declared.numbers.Fault.{Fault}
use Rattle.rm_base.specs.declared.settings.Made.{Made}
use Rattle.closing_pass.specs.declared.report.Report.{Report}

-- a vector that detects the fault, or a search that spent its budget, which doesn't suffice for every search
abbrev pub IsClosing : Net → ℕ → Fault → Verdict → Type 0
IsClosing net budget fault (Detected vector) = IsTest net fault vector
IsClosing net budget fault (Refuted tree) = ⊥
IsClosing net budget fault (Spent tree) = IsSpent net fault budget tree × (2 ^ (source_count net + 1) ≤ budget → ⊥)

abbrev pub fault_in : Fault × Verdict → Fault
fault_in entry = entry.0

-- each fault of the net, in order, with what closes it; no vector detects a fault whose search was spent
pub record AreClosed (net : Net) (budget : ℕ) (verdicts : List (Fault × Verdict)) : Type 0 where
  pub faults : map fault_in verdicts ≡ faults_of net
  pub closing : AllByRecursion (λ entry. IsClosing net budget entry.0 entry.1) verdicts
  pub missed :
      (j k : ℕ) (fault other : Fault) (tree : List Item) (vector : List Bool) → slice_get verdicts j ≡ Some (fault, Spent tree)
      → slice_get verdicts k ≡ Some (other, Detected vector) → Detects net fault (assigned vector) → ⊥

-- accepted removals lead from the one net to the other, and so many of them are fixes; where there is no fix there is no other step
pub record IsRemovedTo (net after : Net) (records : List Record) (made : Made) : Type 0 where
  pub accepted : AcceptedTo net records after
  pub removals : AreRemovals (steps_of records)
  pub counted : made ≡ made_by none_made (steps_of records)
  pub none : made.fixes ≡ 0 → records ≡ []
  pub fewer : wire_count after + made.fixes ≤ wire_count net

-- what the report counts
abbrev pub made_in : Report → Made
made_in report = record { adds = 0; fixes = report.fixed; local = report.local }

-- the steps are recorded with their trees, and nothing else changed
pub record HasClosed (net after : Net) (report : Report) (old new : Option Files) (journal : List ℕ) : Type 0 where
  pub records : List Record
  pub steps : IsRemovedTo net after records (made_in report)
  pub written : HasAppended old new journal (records_text records)
  pub fit : AreFit records

-- no more pins are taken and no more nodes live, and as many pins are held
pub record IsNoFuller (before graph : Circuit) : Type 0 where
  pub pins : pins_taken graph ≤ pins_taken before
  pub nodes : live_nodes graph ≤ live_nodes before
  pub held : pins_held graph ≡ pins_held before
