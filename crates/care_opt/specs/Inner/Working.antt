-- What working on the main gates inside a trial does.
use Rattle.std.specs.Prelude.{Bool, List, None, Ok, Option, Some, false, true, ℕ, ◌+◌, ◌<◌, ◌≡◌, ◌≤◌}
use Rattle.gate_graph.specs.Circuit.{net_of, wiring}
use Rattle.gate_net.specs.Net.{Net}
use Rattle.gate_net.specs.Values.{HasPin}
use Rattle.journal_text.specs.Runs.{made_by, steps_of}
use Rattle.journal_text.specs.declared.record.Record.{Record}
use Rattle.refutation.specs.Branches.{AreAccepted}
use Rattle.refutation.specs.Detected.{HasOpenSet}
use Rattle.refutation.specs.declared.items.Item.{Item}
use Rattle.rm_base.specs.declared.numbers.Fault.{Fault}
use Rattle.rm_base.specs.declared.settings.Made.{Made}
use Rattle.wire_edit.specs.Tried.{Tidies, Tried, start_of}
use Rattle.wire_edit.specs.Work.{work}
use Rattle.wire_edit.specs.declared.steps.Step.{Step}
use Rattle.care_opt.specs.MainSteps.{MainStepsTo}

-- main steps were made and counted, and each took of the work that is left
pub record Works (bound : ℕ) (old new : Tried) (made after : Made) : Type 0 where
  pub more : List Record
  pub steps : MainStepsTo bound (net_of old.graph) more (net_of new.graph)
  pub counted : after ≡ made_by made (steps_of more)
  pub spent : after.fixes + after.local + work (net_of new.graph) ≤ made.fixes + made.local + work (net_of old.graph)
  pub less : work (net_of new.graph) ≤ work (net_of old.graph)
  pub space : new.first.steps ≡ old.first.steps

-- an accepted tree refutes the fault
abbrev pub HasTree : Net → Fault → Type 0
HasTree net fault = (items : List Item) × AreAccepted net fault items

-- such a tree, or a set of facts that is closed at the depth without a clash
abbrev pub IsLooked : Net → Fault → ℕ → Bool → Type 0
IsLooked net fault depth true = HasTree net fault
IsLooked net fault depth false = HasOpenSet net fault depth

-- a refuted fault of the gate, if there is one
abbrev pub IsFoundAt : Net → ℕ → Option Fault → Type 0
IsFoundAt net gate None = Unit {0}
IsFoundAt net gate (Some fault) = (fault.gate.0 ≡ gate) × (HasPin net fault × HasTree net fault)

-- a fix lowers the work that is left
abbrev pub HasFallen : Bool → Tried → Tried → Type 0
HasFallen true old new = work (net_of new.graph) < work (net_of old.graph)
HasFallen false old new = Unit {0}

-- the trial was kept: the same net, and as much room for steps as at the start
pub record IsKept (old kept : Tried) : Type 0 where
  pub net : net_of kept.graph ≡ net_of old.graph
  pub space : kept.first.steps ≡ old.first.steps
  pub start : start_of kept ≡ wiring kept.graph
  pub room : kept.room.steps ≡ old.first.steps

-- from where it was kept the next step was made, or the net is tidy
pub record SteppedFrom (old kept new : Tried) (answer : Option Step) : Type 0 where
  pub is_kept : IsKept old kept
  pub tidies : Tidies kept new (Ok answer)
  pub start : start_of new ≡ start_of kept
  pub first : new.first ≡ kept.first

abbrev pub HasStepped : Tried → Tried → Option Step → Type 0
HasStepped old new answer = (kept : Tried) × SteppedFrom old kept new answer
