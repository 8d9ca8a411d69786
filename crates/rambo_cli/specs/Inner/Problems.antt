-- The problem that each error of a lower layer becomes, what a call of the sink leaves, and why a text or a model is refused.
use Rattle.std.specs.Prelude.{◌≡◌, ◌⊎◌, ◌++◌, ◌<◌, ℕ, Bool, List, Option, IsTrue}
use Rattle.std.specs.Option.{option_map}
use Rattle.rm_base.specs.Causes.{Rose}
use Rattle.rm_base.specs.declared.outside.OutsideFault.{OutsideFault}
use Rattle.rm_base.specs.declared.outside.OutsideFault.TheVariants.{Failed, NoMemory as OutsideNoMemory}
use Rattle.rm_model.specs.declared.parts.Model.{Model}
use Rattle.blif_format.specs.declared.refusal.ReadRefusal.{ReadRefusal}
use Rattle.blif_format.specs.declared.refusal.ReadRefusal.TheVariants.{Fault as ReadFault, Limit as ReadLimit, NoMemory as ReadNoMemory}
use Rattle.blif_format.specs.declared.refusal.Quantity.TheVariants.{Pins}
use Rattle.cover_decompose.specs.Count.{decomposed}
use Rattle.journal_text.specs.declared.append.Stop.{Stop}
use Rattle.journal_text.specs.declared.append.Stop.TheVariants as stop
use Rattle.optimisation.specs.declared.run_error.RunError.{RunError}
use Rattle.optimisation.specs.declared.run_error.RunError.TheVariants as run_error
use Rattle.word_reading.specs.declared.command.UsageError.{UsageError}
use Rattle.word_reading.specs.declared.command.UsageError.TheVariants as word
use Rattle.rambo_cli.specs.Flat.{ExceedsFlat, HasFlatFault}
use Rattle.rambo_cli.specs.declared.input_model.FlatLimits.{FlatLimits}
use Rattle.rambo_cli.specs.Written.{HasFault, ExceedsBy, most_pins}
use Rattle.rambo_cli.specs.Lines.{memory_line}
use Rattle.rambo_cli.specs.declared.problem.Problem.{Problem}
use Rattle.rambo_cli.specs.declared.problem.Problem.TheVariants.{Words, Text, Limit, Missing, Fault, Memory}
use Rattle.rambo_cli.specs.Problems.{line_of, status_of}
use Rattle.rambo_cli.specs.Outcome.{BeginsLine}

abbrev pub outside_problem : OutsideFault → Problem
outside_problem Failed = Fault
outside_problem OutsideNoMemory = Memory

abbrev pub read_problem : ReadRefusal → Problem
read_problem (ReadFault kind place) = Text kind place
read_problem (ReadLimit quantity count place) = Limit quantity count
read_problem ReadNoMemory = Memory

abbrev pub run_error_problem : RunError → Problem
run_error_problem (run_error.Limit pins) = Limit Pins pins
run_error_problem run_error.Failed = Fault
run_error_problem run_error.NoMemory = Memory

abbrev pub stop_problem : Stop → Problem
stop_problem stop.Failed = Fault
stop_problem stop.NoMemory = Memory

abbrev pub word_problem : UsageError → Problem
word_problem word.Refused = Words
word_problem word.NoMemory = Memory

-- a sink that may want memory has put nothing
abbrev pub PutsNothing : Bool → Option (List ℕ) → Option (List ℕ) → Type 0
PutsNothing may_want old new = IsTrue may_want × (new ≡ old)

-- the line is put and the status answered; or the sink failed, and a beginning of the line is put; or the sink wanted memory
abbrev pub IsPutWith : Bool → ℕ → ℕ → List ℕ → Option (List ℕ) → Option (List ℕ) → ℕ → ℕ → Type 0
IsPutWith may_want wanted status line old new before now =
    ((status ≡ wanted) × (new ≡ option_map (λ w. w ++ line) old))
    ⊎ (((status ≡ 3) × (Rose before now × BeginsLine line old new)) ⊎ ((status ≡ 4) × PutsNothing may_want old new))

-- the line of the problem is put and its status answered; or the sink failed, at that line or at the one on memory; or memory ran
-- out, which is put unless the sink wanted memory
abbrev pub IsReported : Bool → Problem → ℕ → Option (List ℕ) → Option (List ℕ) → ℕ → ℕ → Type 0
IsReported may_want problem status old new before now =
    ((status ≡ status_of problem) × (new ≡ option_map (λ w. w ++ line_of problem) old))
    ⊎ (((status ≡ 3) × (Rose before now × (BeginsLine (line_of problem) old new ⊎ BeginsLine memory_line old new)))
    ⊎ ((status ≡ 4) × ((new ≡ option_map (λ w. w ++ memory_line) old) ⊎ PutsNothing may_want old new)))

-- a problem of the outside alone
abbrev pub IsOutside : Problem → Type 0
IsOutside Missing = Unit {0}
IsOutside Fault = Unit {0}
IsOutside Memory = Unit {0}
IsOutside _ = ⊥

-- out of memory
abbrev pub IsWant : Problem → Type 0
IsWant Memory = Unit {0}
IsWant _ = ⊥

-- why a text isn't read, where the wires of the decomposition are counted so
abbrev pub TextCause : (Model → ℕ) → List ℕ → Problem → Type 0
TextCause wires text (Text kind place) = HasFault text kind place
TextCause wires text (Limit quantity count) = ExceedsBy wires text quantity count
TextCause wires text Memory = Unit {0}
TextCause wires text _ = ⊥

-- why a text has no flat model
abbrev pub FlatTextCause : FlatLimits → List ℕ → Problem → Type 0
FlatTextCause limits text (Text kind place) = HasFlatFault limits text kind place
FlatTextCause limits text (Limit quantity count) = ExceedsFlat limits text quantity count
FlatTextCause limits text Memory = Unit {0}
FlatTextCause limits text _ = ⊥

-- why files aren't written
abbrev pub StoreCause : ℕ → ℕ → Problem → Type 0
StoreCause before now Fault = Rose before now
StoreCause before now Memory = Unit {0}
StoreCause before now _ = ⊥

-- why a model isn't optimised, or isn't compared
abbrev pub ModelCauseBy : (Model → ℕ) → Model → ℕ → ℕ → Problem → Type 0
ModelCauseBy wires m before now (Limit quantity count) = (quantity ≡ Pins) × ((count ≡ wires m) × (most_pins < wires m))
ModelCauseBy wires m before now Fault = Rose before now
ModelCauseBy wires m before now Memory = Unit {0}
ModelCauseBy wires m before now _ = ⊥

abbrev pub ModelCause : Model → ℕ → ℕ → Problem → Type 0
ModelCause = ModelCauseBy decomposed

-- the text is put and the status answered; or the sink failed, at that text or at the line on memory; or memory ran out, which is put
-- unless the sink wanted memory
abbrev pub HasEnded : Bool → ℕ → List ℕ → ℕ → Option (List ℕ) → Option (List ℕ) → ℕ → ℕ → Type 0
HasEnded may_want wanted text status old new before now =
    ((status ≡ wanted) × (new ≡ option_map (λ w. w ++ text) old))
    ⊎ (((status ≡ 3) × (Rose before now × (BeginsLine text old new ⊎ BeginsLine memory_line old new)))
    ⊎ ((status ≡ 4) × ((new ≡ option_map (λ w. w ++ memory_line) old) ⊎ PutsNothing may_want old new)))
