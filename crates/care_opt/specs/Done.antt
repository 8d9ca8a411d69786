-- What optimising under a care model leaves.
use Rattle.std.specs.Prelude.{Bool, List, [], length, map, true, ℕ, ◌+◌, ◌^◌, ◌∷◌, ◌≡◌, ◌≤◌}
use Rattle.std.specs.List.{AllZip}
use Rattle.gate_graph.specs.Circuit.{Circuit, net_of}
use Rattle.gate_net.specs.Faults.{IsTest, faults_of}
use Rattle.gate_net.specs.Net.{Net, source_count}
use Rattle.journal_text.specs.Runs.{made_by, none_made, steps_of}
use Rattle.journal_text.specs.declared.record.Record.{Record}
use Rattle.journal_text.specs.declared.record.Record.TheVariants as kept
use Rattle.podem.specs.Verdicts.{IsSpent}
use Rattle.refutation.specs.Detected.{HasOpenSet}
use Rattle.rm_base.specs.declared.numbers.Fault.{Fault}
use Rattle.rm_base.specs.declared.settings.Made.{Made}
use Rattle.rm_base.specs.Words.{Word}
use Rattle.rm_model.specs.Value.{IsConsistent, source_names}
use Rattle.rm_model.specs.declared.parts.Model.{Model}
use Rattle.care_opt.specs.Extract.{extract, main_faults}
use Rattle.care_opt.specs.Gated.{IsMainFault, main_bound, models_gated}
use Rattle.care_opt.specs.MainSteps.{IsMainTidy, MainStepsTo}

-- the record is that fault's: a vector that detects it, or the open search that spent the budget, which doesn't suffice for every search
abbrev pub IsRecordOf : Net → ℕ → Fault → Record → Type 0
IsRecordOf net budget fault (kept.Hit own vector) = (own ≡ fault) × IsTest net fault vector
IsRecordOf net budget fault (kept.Spent own tree) = (own ≡ fault) × (IsSpent net fault budget tree × (2 ^ (source_count net + 1) ≤ budget → ⊥))
IsRecordOf net budget fault (kept.Step step tree) = ⊥

-- one record for each of the faults, in order
abbrev pub AreRecordsOf : Net → ℕ → List Fault → List Record → Type 0
AreRecordsOf net budget faults records = AllZip (IsRecordOf net budget) faults records

-- the last gated net, and the steps that lead to it: it is main-tidy, the graph is its extract, and no pin of a main gate is refuted
pub record IsLastNet (m c : Model) (depth : ℕ) (graph : Circuit) (made : Made) (steps : List Record) (last : Net) : Type 0 where
  pub reached : MainStepsTo (main_bound m) (models_gated m c) steps last
  pub counted : made ≡ made_by none_made (steps_of steps)
  pub is_tidy : IsMainTidy (main_bound m) last
  pub extracted : net_of graph ≡ extract (main_bound m) last
  pub unrefuted : (fault : Fault) → IsMainFault (main_bound m) last fault → HasOpenSet last fault depth
  pub sources : source_count last ≡ length (source_names m)

-- there is such a net, and the records are those of its main faults
pub record IsOptimisedOn (m c : Model) (depth budget : ℕ) (graph : Circuit) (made : Made) (records : List Record) : Type 0 where
  pub last : Net
  pub steps : List Record
  pub is_last : IsLastNet m c depth graph made steps last
  pub closed : AreRecordsOf last budget (main_faults (main_bound m) last) records

-- the care model is 1 where its sources have these values
abbrev pub IsCaredFor : Model → List Bool → Type 0
IsCaredFor c bits = (v : Word → Bool) → IsConsistent c v → map v c.inputs ≡ bits → map v c.outputs ≡ true ∷ []

-- the vector of a record detects this fault of the net, and the care model is 1 under it
abbrev pub IsTestOf : Net → Model → Fault → Record → Type 0
IsTestOf net c own (kept.Hit fault vector) = IsTest net own vector × IsCaredFor c vector
IsTestOf net c own (kept.Spent fault tree) = Unit {0}
IsTestOf net c own (kept.Step step tree) = ⊥

-- the j-th record's vector detects the j-th fault of the net
abbrev pub AreTestsOf : Net → Model → List Record → Type 0
AreTestsOf net c records = AllZip (IsTestOf net c) (faults_of net) records
