-- What passing through the faults of the main gates, and all work on them, answers.
use Rattle.std.specs.Prelude.{List, Some, length, slice_get, ℕ, ◌≡◌, ◌≤◌}
use Rattle.gate_graph.specs.Circuit.{Circuit, net_of}
use Rattle.gate_net.specs.Net.{Net}
use Rattle.journal_text.specs.Runs.{made_by, none_made, steps_of}
use Rattle.journal_text.specs.declared.record.Record.{Record}
use Rattle.refutation.specs.Detected.{HasOpenSet}
use Rattle.rm_base.specs.declared.numbers.Fault.{Fault}
use Rattle.rm_base.specs.declared.settings.Made.{Made}
use Rattle.care_opt.specs.Done.{AreRecordsOf}
use Rattle.care_opt.specs.Extract.{extract, main_faults}
use Rattle.care_opt.specs.Gated.{IsMainFault}
use Rattle.care_opt.specs.Inner.Standing.{CanGate, IsGatedOver}
use Rattle.care_opt.specs.Inner.Working.{HasTree}
use Rattle.care_opt.specs.MainSteps.{IsMainTidy, MainStepsTo}
use Rattle.care_opt.specs.declared.closing.Passed.{Passed}
use Rattle.care_opt.specs.declared.closing.Passed.TheVariants.{Closed, Refuted}

-- each main fault has a record and such a set, or one is refuted
abbrev pub IsPassed : ℕ → Net → ℕ → ℕ → Passed → Type 0
IsPassed bound net depth budget (Closed records) = AreRecordsOf net budget (main_faults bound net) records.items × ((fault : Fault) → IsMainFault bound net fault → HasOpenSet net fault depth)
IsPassed bound net depth budget (Refuted fault) = IsMainFault bound net fault × HasTree net fault

-- each of these faults has a record and such a set, or one of them is refuted
abbrev pub IsJudged : Net → ℕ → ℕ → List Fault → Passed → Type 0
IsJudged net depth budget faults (Closed records) = AreRecordsOf net budget faults records.items × ((k : ℕ) (fault : Fault) → slice_get faults k ≡ Some fault → HasOpenSet net fault depth)
IsJudged net depth budget faults (Refuted fault) = ((k : ℕ) × (slice_get faults k ≡ Some fault)) × HasTree net fault

-- main steps lead to a main-tidy net whose main faults have these records
pub record IsWorkedOn (bound : ℕ) (start : Net) (depth budget : ℕ) (last : Net) (made : Made) (records : List Record) : Type 0 where
  pub steps : List Record
  pub reached : MainStepsTo bound start steps last
  pub counted : made ≡ made_by none_made (steps_of steps)
  pub is_tidy : IsMainTidy bound last
  pub closed : AreRecordsOf last budget (main_faults bound last) records
  pub unrefuted : (fault : Fault) → IsMainFault bound last fault → HasOpenSet last fault depth

-- and the graph is the extract of that net
abbrev pub IsExtractedFrom : ℕ → Net → ℕ → ℕ → Circuit → Made → List Record → Type 0
IsExtractedFrom bound start depth budget graph made records = (last : Net) × (IsWorkedOn bound start depth budget last made records × (net_of graph ≡ extract bound last))

-- a gated net of two nets with so few observed places
abbrev pub IsSomeGated : ℕ → Net → Type 0
IsSomeGated bound net = (one : Net) × ((two : Net) × (CanGate one two × (IsGatedOver one two net × ((bound ≡ length one.nodes) × (length one.observed ≤ 4096)))))
