-- The command `optcare IN CARE OUT TESTS`.
use Rattle.std.specs.Prelude.{◌≡◌, ◌<◌, ◌≤◌, ◌+◌, ◌^◌, ◌⊎◌, ℕ, Bool, List, Option, None, Some, IfSome, IsSomeAnd, length, slice_get, take, true}
use Rattle.rm_base.specs.Files.{Files, put_file}
use Rattle.rm_base.specs.Words.{Word}
use Rattle.rm_base.specs.declared.numbers.Fault.{Fault}
use Rattle.rm_base.specs.declared.settings.Settings.{Settings}
use Rattle.rm_model.specs.Value.{IsRanked, source_names}
use Rattle.rm_model.specs.declared.parts.Cover.{Cover}
use Rattle.rm_model.specs.declared.parts.Model.{Model}
use Rattle.blif_lines.specs.Layout.{lines_of}
use Rattle.blif_format.specs.FirstFault.{first_fault}
use Rattle.blif_format.specs.Grammar.{Reads}
use Rattle.blif_format.specs.Text.{text_of}
use Rattle.gate_net.specs.Faults.{fault_at, gates_of}
use Rattle.gate_net.specs.Net.{Net, gate_count, wire_count}
use Rattle.podem.specs.Verdicts.{IsSpent}
use Rattle.refutation.specs.Detected.{HasOpenSet}
use Rattle.cover_decompose.specs.Count.{decomposed}
use Rattle.cover_decompose.specs.Decomposition.{net_of_model}
use Rattle.graph_to_model.specs.NetModel.{model_of_net}
use Rattle.graph_to_model.specs.Wires.{wires}
use Rattle.model_faults.specs.ModelFaults.{DetectsIn, gate_covers_of}
use Rattle.joined_nets.specs.Ready.{first_difference}
use Rattle.journal_text.specs.Runs.{made_by, none_made, steps_of}
use Rattle.journal_text.specs.Text.{journal_text}
use Rattle.journal_text.specs.declared.record.Record.{Record}
use Rattle.journal_text.specs.declared.record.Record.TheVariants as kept
use Rattle.optimisation.specs.Tests.{hits_among, spents_among}
use Rattle.care_opt.specs.Done.{AreRecordsOf, IsCaredFor}
use Rattle.care_opt.specs.EquivalentOn.{EquivalentOn, HasCareShape}
use Rattle.care_opt.specs.Extract.{extract, main_faults, main_nodes, new_number}
use Rattle.care_opt.specs.Gated.{IsMainFault, main_bound, models_gated}
use Rattle.care_opt.specs.MainSteps.{IsMainTidy, MainStepsTo}
use Rattle.rambo_cli.specs.Contract.{Contract}
use Rattle.rambo_cli.specs.Files.{IfTold}
use Rattle.rambo_cli.specs.Headline.{NoneIsSpent}
use Rattle.rambo_cli.specs.Pairs.{AreRead, CanBeCompared, PairFinds}
use Rattle.rambo_cli.specs.declared.summary.CareFigures.{CareFigures}
use Rattle.rambo_cli.specs.declared.work.Done.{Done}
use Rattle.rambo_cli.specs.declared.work.Done.TheVariants.{Cared}
use Rattle.rambo_cli.specs.declared.problem.NameList.TheVariants.{Sources}
use Rattle.rambo_cli.specs.declared.problem.Problem.{Problem}
use Rattle.rambo_cli.specs.declared.problem.Problem.TheVariants.{Unlike, CareShape}

-- the record is one of this fault: its vector detects the stuck input of the written model, and the care model is 1 under it; or its
-- tree is an open search on the last gated net that spent the whole budget
abbrev pub CareAnswers : Model → Model → Net → ℕ → Fault → Cover → Record → Type 0
CareAnswers written c last budget fault cover (kept.Hit given vector) = (given ≡ fault) × (IsCaredFor c vector × DetectsIn written vector cover fault.position fault.value)
CareAnswers written c last budget fault cover (kept.Spent given tree) = (given ≡ fault) × IsSpent last fault budget tree
CareAnswers written c last budget fault cover (kept.Step step tree) = ⊥

-- the fault at an input of the k-th gate cover is that of the k-th main gate of the last gated net, and has such a record at its place
pub record IsCareTested (written c : Model) (bound : ℕ) (last : Net) (budget : ℕ) (records : List Record) (k position : ℕ) (value : Bool) (cover : Cover) : Type 0 where
  pub gate : ℕ
  pub gate_is : slice_get (gates_of (extract bound last)) k ≡ Some (new_number (main_nodes bound last) gate)
  pub place : ℕ
  pub fault_is : slice_get (main_faults bound last) place ≡ Some (fault_at gate position value)
  pub said : Record
  pub stands : slice_get records place ≡ Some said
  pub answers : CareAnswers written c last budget (fault_at gate position value) cover said

-- every stuck-at fault at an input of a gate cover of the written model
abbrev pub AreCareTested : Model → Model → ℕ → Net → ℕ → List Record → Type 0
AreCareTested written c bound last budget records =
    (k position : ℕ) (value : Bool) (cover : Cover) → slice_get (gate_covers_of written) k ≡ Some cover → position < length cover.inputs
    → IsCareTested written c bound last budget records k position value cover

-- the figures are those of the decomposition, of what remains, of the steps and of the records
pub record AreCareFigures (m : Model) (net : Net) (steps records : List Record) (f : CareFigures) : Type 0 where
  pub wires_before : f.wires_before ≡ decomposed m
  pub gates_before : f.gates_before ≡ gate_count (net_of_model m)
  pub wires : f.wires ≡ wire_count net
  pub gates : f.gates ≡ gate_count net
  pub made : f.made ≡ made_by none_made (steps_of steps)
  pub tested : f.tested ≡ hits_among records
  pub spent : f.spent ≡ spents_among records

-- What is written where `optcare` ends with status 0, sentence by sentence.
pub record IsCaredInto (m c : Model) (settings : Settings) (figures : CareFigures) (recorded output : List ℕ) : Type 0 where
  pub net : Net
  pub last : Net
  pub steps : List Record
  pub records : List Record
  -- the text written is an acyclic model of the grammar, without a fault
  pub spelled : output ≡ text_of (model_of_net m net)
  pub of_the_grammar : Reads (lines_of output) (model_of_net m net)
  pub acyclic : IsRanked (model_of_net m net)
  pub faultless : first_fault output ≡ None
  -- that gives the original's outputs and latch pins for every assignment under which the care model is 1
  pub same_where_cared : EquivalentOn m (model_of_net m net) c
  -- with no more gate-input wires than the decomposition
  pub no_more_wires : wires (model_of_net m net) ≤ decomposed m
  -- accepted steps of main gates lead from the gated net of both models to the last one, at whose main gates no local rule applies
  pub reached : MainStepsTo (main_bound m) (models_gated m c) steps last
  pub is_tidy : IsMainTidy (main_bound m) last
  -- and the model is that of the last one's main gates
  pub extracted : net ≡ extract (main_bound m) last
  -- for every fault of a main gate's pin there is a set of facts that is closed at the depth without a clash
  pub unrefuted : (fault : Fault) → IsMainFault (main_bound m) last fault → HasOpenSet last fault settings.depth
  -- TESTS has a record for each of these faults, by gate, position and value: a vector that detects it, under which the care model is
  -- 1, or a written search that spent its whole budget,
  pub recorded_as : recorded ≡ journal_text settings.budget records
  pub closed : AreRecordsOf last settings.budget (main_faults (main_bound m) last) records
  pub tested : AreCareTested (model_of_net m net) c (main_bound m) last settings.budget records
  -- impossible at 2^(n+1), n being the number of inputs, clocks and latch outputs of the original
  pub decided : 2 ^ (length (source_names m) + 1) ≤ settings.budget → NoneIsSpent records
  pub figures_are : AreCareFigures m net steps records figures

-- both files are written for the two models, TESTS first, and all other files are as before
pub record HasCared (m c : Model) (output tests : Word) (settings : Settings) (figures : CareFigures) (old new : Files) : Type 0 where
  pub recorded : List ℕ
  pub written : List ℕ
  pub result : IsCaredInto m c settings figures recorded written
  pub files : new ≡ put_file output written (put_file tests recorded old)

-- that is so of the models that the texts say
pub record HasCaredFor (input care output tests : Word) (settings : Settings) (figures : CareFigures) (old new : Files) : Type 0 where
  pub model : Model
  pub cares : Model
  pub read : AreRead decomposed input care model cares old
  pub cared : HasCared model cares output tests settings figures old new

abbrev pub OptcareDoes : Word → Word → Word → Word → Settings → Option Files → Option Files → Done → Type 0
OptcareDoes input care output tests settings old new (Cared figures) = IfTold old new (HasCaredFor input care output tests settings figures)
OptcareDoes input care output tests settings old new _ = ⊥

-- the second model has clocks or latches, or not exactly one output; or else its inputs aren't the sources of the first, at this place
-- first
abbrev pub Misfits : Model → Model → Problem → Type 0
Misfits m c CareShape = HasCareShape c → ⊥
Misfits m c (Unlike Sources at) = HasCareShape c × (first_difference (source_names m) (source_names c) ≡ Some at)
Misfits m c _ = ⊥

-- that is so of the models that the texts say
pub record AreMisfit (input care : Word) (problem : Problem) (told : Files) : Type 0 where
  pub model : Model
  pub cares : Model
  pub read : AreRead decomposed input care model cares told
  pub misfits : Misfits model cares problem

-- what is found of the two texts; or that the second is no care model for the first
abbrev pub OptcareFinds : Word → Word → Option Files → Problem → Type 0
OptcareFinds input care files (Unlike list at) = IfSome files (AreMisfit input care (Unlike list at))
OptcareFinds input care files CareShape = IfSome files (AreMisfit input care CareShape)
OptcareFinds input care files problem = PairFinds decomposed input care files problem

-- TESTS holds a beginning of its text, and the output is as it was; or TESTS is whole, and the output holds a beginning of its text
abbrev pub BeginsFiles : Word → Word → List ℕ → List ℕ → Files → Files → Type 0
BeginsFiles output tests recorded written old new =
    ((k : ℕ) × (new ≡ put_file tests (take k recorded) old)) ⊎ ((k : ℕ) × (new ≡ put_file output (take k written) (put_file tests recorded old)))

pub record BeginsCared (input care output tests : Word) (settings : Settings) (old new : Files) : Type 0 where
  pub model : Model
  pub cares : Model
  pub read : AreRead decomposed input care model cares old
  pub figures : CareFigures
  pub recorded : List ℕ
  pub written : List ℕ
  pub result : IsCaredInto model cares settings figures recorded written
  pub files : BeginsFiles output tests recorded written old new

-- nothing has changed, or that is so
abbrev pub BeginsToCare : Word → Word → Word → Word → Settings → Files → Files → Type 0
BeginsToCare input care output tests settings old new = (new ≡ old) ⊎ BeginsCared input care output tests settings old new

abbrev pub optcare_contract : Word → Word → Word → Word → Settings → Contract
optcare_contract input care output tests settings = record {
  Does = OptcareDoes input care output tests settings;
  Finds = OptcareFinds input care;
  Leaves = λ old new. IfTold old new (BeginsToCare input care output tests settings);
  needs_files = true;
  IsGood = λ files. ⊥;
  IsJudged = λ files. ⊥;
  IsCompared = λ files. IsSomeAnd files (CanBeCompared decomposed input care);
}
