-- Accepted journals.
use Rattle.std.specs.Prelude.{◌≡◌, ℕ, List, ◌++◌}
use Rattle.rm_model.specs.declared.parts.Model.{Model}
use Rattle.gate_net.specs.Net.{Net}
use Rattle.wire_edit.specs.Order.{IsTidy}
use Rattle.cover_decompose.specs.Decomposition.{net_of_model}
use Rattle.journal_text.specs.declared.record.Record.{Record}
use Rattle.journal_text.specs.Runs.{AcceptedTo}
use Rattle.gate_net.specs.Faults.{faults_of}
use Rattle.journal_check.specs.Verdicts.{SettleAll}

-- steps that lead to a tidy net, and then one record for each of its faults
pub record IsAcceptedFrom (net : Net) (budget : ℕ) (records : List Record) (last : Net) : Type 0 where
  pub steps : List Record
  pub verdicts : List Record
  pub parts : records ≡ steps ++ verdicts
  pub leads : AcceptedTo net steps last
  pub tidy : IsTidy last
  pub settled : SettleAll last budget (faults_of last) verdicts

-- a budget and records are an accepted journal for the model
abbrev pub IsAccepted : Model → ℕ → List Record → Net → Type 0
IsAccepted m budget records last = IsAcceptedFrom (net_of_model m) budget records last
