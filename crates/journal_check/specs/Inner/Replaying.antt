-- Beside Replaying.antt: what only private contracts, invariants and laws speak of.
use Rattle.std.specs.Prelude.{◌≡◌, ◌≢◌, ℕ, Bool, not, List, Option, Some, None, Result, Ok, Err, ◌⊎◌}
use Rattle.rm_base.specs.declared.numbers.Fault.{Fault}
use Rattle.gate_net.specs.Net.{Net}
use Rattle.gate_net.specs.Edits.{last_pin}
use Rattle.gate_net.specs.Values.{HasPin}
use Rattle.refutation.specs.declared.items.Form.TheVariants.{Closed, Partial}
use Rattle.refutation.specs.declared.items.Item.{Item}
use Rattle.refutation_check.specs.FirstRefusal.{IsAcceptedAs, IsFirstRefusal}
use Rattle.refutation_check.specs.declared.refusals.CheckRefusal.{CheckRefusal}
use Rattle.refutation_check.specs.declared.refusals.CheckRefusal.TheVariants as check
use Rattle.gate_net.specs.declared.Kind.{Kind}
use Rattle.gate_net.specs.Meaning.{controlling}
use Rattle.std.specs.Option.{option_map}
use Rattle.wire_edit.specs.declared.steps.Step.{Step}
use Rattle.wire_edit.specs.declared.steps.Step.TheVariants as step
use Rattle.wire_edit.specs.Tests.{control_of}
use Rattle.wire_edit.specs.Steps.{stepped}
use Rattle.journal_text.specs.Accepted.{IsAcceptedStep}
use Rattle.journal_check.specs.declared.refusal.Why.{Why}
use Rattle.journal_check.specs.declared.refusal.Why.TheVariants as why
use Rattle.journal_check.specs.Verdicts.{edges_of}
use Rattle.journal_check.specs.Replaying.{StepLeads, refused}

-- what a tree that is checked says: it is accepted, or this is its first refusal
abbrev pub TreeSays : Net → Fault → List Item → Result (Unit {0}) Why → Type 0
TreeSays net fault tree (Ok _) = IsAcceptedAs Closed net fault tree
TreeSays net fault tree (Err w) = w ≢ why.NoMemory → (r : CheckRefusal) × (IsFirstRefusal net fault Closed tree r × (w ≡ why.Tree r))

-- of the fault of a fix whose pin exists
abbrev pub FixSays : Net → Step → List Item → Result (Unit {0}) Why → Type 0
FixSays net (step.Fix gate position value) tree answer =
    let fault : Fault = record { gate = gate; position = position; value = value } in HasPin net fault → TreeSays net fault tree answer
FixSays net _ tree (Ok _) = Unit {0}
FixSays net _ tree (Err w) = ⊥

-- the fault of the pin that an addition makes
abbrev pub IsAddedPin : Net → Step → Option Fault → Type 0
IsAddedPin net (step.Add gate node) None = control_of net gate.0 ≡ None
IsAddedPin net (step.Add gate node) (Some f) = (c : Bool) × ((control_of net gate.0 ≡ Some c) × (f ≡ last_pin net gate.0 (not c)))
IsAddedPin net _ None = Unit {0}
IsAddedPin net _ (Some f) = ⊥

-- of the tree of that pin, on the net after
abbrev pub AddSays : Net → Option Fault → List Item → Result (Unit {0}) Why → Type 0
AddSays net None tree (Ok _) = Unit {0}
AddSays net None tree (Err w) = ⊥
AddSays net (Some f) tree answer = TreeSays net f tree answer

-- a step is made where it is accepted, and else changes nothing
abbrev pub Makes : Net → Step → List Item → Net → Result (Unit {0}) Why → Type 0
Makes net s tree after (Ok _) = IsAcceptedStep net s tree × (after ≡ stepped net s)
Makes net s tree after (Err w) = (after ≡ net) × (w ≢ why.NoMemory → StepLeads net s tree (refused w))

abbrev pub why_of : CheckRefusal → Why
why_of check.NoMemory = why.NoMemory
why_of r = why.Tree r

-- the value that doesn't control a kind
abbrev pub noncontrolling : Option Kind → Option Bool
noncontrolling None = None
noncontrolling (Some kind) = option_map not (controlling kind)

-- what a spent tree says: it is accepted with exactly budget edges, or with others, or this is its first refusal
abbrev pub SpentSays : Net → ℕ → Fault → List Item → Result (Unit {0}) Why → Type 0
SpentSays net budget fault tree (Ok _) = IsAcceptedAs Partial net fault tree × (edges_of tree ≡ budget)
SpentSays net budget fault tree (Err w) =
    w ≢ why.NoMemory → ((r : CheckRefusal) × (IsFirstRefusal net fault Partial tree r × (w ≡ why.Tree r)))
    ⊎ (IsAcceptedAs Partial net fault tree × ((edges_of tree ≢ budget) × (w ≡ why.SpentShort (edges_of tree) budget)))
