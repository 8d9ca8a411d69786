-- What is written where `opt` ends with 0.
use Rattle.std.specs.Prelude.{◌≡◌, ℕ, Bool, ◌<◌, ◌≤◌, ◌+◌, ◌^◌, ◌++◌, List, None, Some, length, slice_get}
use Rattle.rm_base.specs.declared.numbers.Fault.{Fault}
use Rattle.rm_base.specs.declared.settings.Settings.{Settings}
use Rattle.rm_model.specs.Value.{Equivalent, IsRanked, source_names}
use Rattle.rm_model.specs.declared.parts.Cover.{Cover}
use Rattle.rm_model.specs.declared.parts.Model.{Model}
use Rattle.gate_net.specs.Net.{Net}
use Rattle.gate_net.specs.Values.{Detects}
use Rattle.gate_net.specs.Faults.{assigned, fault_at, gates_of}
use Rattle.refutation.specs.declared.items.Item.{Item}
use Rattle.podem.specs.Verdicts.{IsSpent}
use Rattle.blif_lines.specs.Layout.{lines_of}
use Rattle.blif_format.specs.Grammar.{Reads}
use Rattle.blif_format.specs.Text.{text_of}
use Rattle.blif_format.specs.FirstFault.{first_fault}
use Rattle.cover_decompose.specs.Count.{decomposed}
use Rattle.cover_decompose.specs.Decomposition.{net_of_model}
use Rattle.graph_to_model.specs.Laws.{AreFew}
use Rattle.graph_to_model.specs.NetModel.{model_of_net}
use Rattle.graph_to_model.specs.Wires.{wires}
use Rattle.model_faults.specs.ModelFaults.{DetectsIn, gate_covers_of}
use Rattle.journal_text.specs.Runs.{steps_of}
use Rattle.journal_text.specs.Text.{AreEntries, journal_entries, journal_text}
use Rattle.journal_text.specs.declared.record.Record.{Record}
use Rattle.journal_text.specs.declared.record.Record.TheVariants.{Step, Hit, Spent}
use Rattle.journal_check.specs.Accepts.{IsAccepted}
use Rattle.optimisation.specs.Turns.{IsTurnedRun}
use Rattle.optimisation.specs.Allowed.{IsAllowed}
use Rattle.optimisation.specs.Whole.{AreFigures}
use Rattle.optimisation.specs.declared.optimised.Figures.{Figures}

-- no vector that was written detects the fault
abbrev pub IsMissedByAll : Net → List Record → Fault → Type 0
IsMissedByAll net verdicts fault =
    (place : ℕ) (other : Fault) (vector : List Bool) → slice_get verdicts place ≡ Some (Hit other vector) → Detects net fault (assigned vector) → ⊥

-- the record is one of this fault: its vector detects the stuck input of the written model; or its tree is an open search that
-- spent the whole budget, and no vector that was written detects the fault
abbrev pub Answers : Model → Net → ℕ → List Record → Fault → Cover → Record → Type 0
Answers written net budget verdicts fault cover (Hit given vector) = (given ≡ fault) × DetectsIn written vector cover fault.position fault.value
Answers written net budget verdicts fault cover (Spent given tree) = (given ≡ fault) × (IsSpent net fault budget tree × IsMissedByAll net verdicts fault)
Answers written net budget verdicts fault cover (Step step tree) = ⊥

-- the fault at an input of the k-th gate cover is that of the k-th gate of the net, and has one such record
pub record IsTested (written : Model) (net : Net) (budget : ℕ) (verdicts : List Record) (k position : ℕ) (value : Bool) (cover : Cover) : Type 0 where
  pub gate : ℕ
  pub gate_is : slice_get (gates_of net) k ≡ Some gate
  pub place : ℕ
  pub said : Record
  pub stands : slice_get verdicts place ≡ Some said
  pub answers : Answers written net budget verdicts (fault_at gate position value) cover said
  pub once : (other : ℕ) (again : Record) → slice_get verdicts other ≡ Some again → Answers written net budget verdicts (fault_at gate position value) cover again → other ≡ place

-- every stuck-at fault at an input of a gate cover of the written model
abbrev pub AreTested : Model → Net → ℕ → List Record → Type 0
AreTested written net budget verdicts =
    (k position : ℕ) (value : Bool) (cover : Cover) → slice_get (gate_covers_of written) k ≡ Some cover → position < length cover.inputs
    → IsTested written net budget verdicts k position value cover

-- no search was spent
abbrev pub NoneIsSpent : List Record → Type 0
NoneIsSpent records = (place : ℕ) (fault : Fault) (tree : List Item) → slice_get records place ≡ Some (Spent fault tree) → ⊥

-- The headline, sentence by sentence: the output and the journal that are written for a model.
pub record IsOptimisedInto (m : Model) (settings : Settings) (figures : Figures) (journal output : List ℕ) : Type 0 where
  pub net : Net
  pub steps : List Record
  pub verdicts : List Record
  -- the text written is an acyclic model of the grammar, without a fault
  pub spelled : output ≡ text_of (model_of_net m net)
  pub of_the_grammar : Reads (lines_of output) (model_of_net m net)
  pub acyclic : IsRanked (model_of_net m net)
  pub faultless : first_fault output ≡ None
  -- that for every assignment gives the original's outputs and latch pins
  pub same_function : Equivalent m (model_of_net m net)
  -- with no more gate-input wires than the decomposition
  pub no_more_wires : wires (model_of_net m net) ≤ decomposed m
  -- the checker accepts every journal step
  pub recorded : journal ≡ journal_text settings.budget (steps ++ verdicts)
  pub accepted : IsAccepted m settings.budget (steps ++ verdicts) net
  -- and can read the journal, of which each number has at most 32 bits, and write the output anew
  pub valid : AreEntries (journal_entries settings.budget (steps ++ verdicts))
  pub small : AreFew net m
  -- and every remaining gate-input stuck-at fault has a written detecting vector, or a written search that spent its whole budget,
  pub tested : AreTested (model_of_net m net) net settings.budget verdicts
  -- impossible at 2^(n+1), n being the number of inputs, clocks and latch outputs of the original
  pub decided : 2 ^ (length (source_names m) + 1) ≤ settings.budget → NoneIsSpent verdicts
  -- what `settled` and the count of tries mean of the steps, between which gates may be merged: so many tries are allowed,
  pub limit : ℕ
  pub run : IsTurnedRun (net_of_model m) (steps_of steps) settings.merge settings.perturb settings.depth limit figures.tries figures.settled
  -- as many as the settings say, and fewer only where the work has reached the limit that is set
  pub allowed : IsAllowed settings limit figures.work
  -- and the other figures of the summary
  pub figures_are : AreFigures m net steps verdicts figures
