-- The net to which accepted steps lead, up to where it has the fewest wires.
use Rattle.std.specs.Prelude.{◌≡◌, ℕ, ◌<◌, ◌≤◌, List, [], ◌∷◌, ◌++◌, length, take}
use Rattle.std.specs.List.{AllByRecursion}
use Rattle.rm_model.specs.declared.parts.Model.{Model}
use Rattle.gate_net.specs.Net.{Net, wire_count}
use Rattle.wire_edit.specs.declared.steps.Step.{Step}
use Rattle.wire_edit.specs.Steps.{stepped}
use Rattle.wire_edit.specs.Laws.{IsTidying}
use Rattle.wire_edit.specs.Order.{IsTidy}
use Rattle.wire_edit.specs.Tidying.{TidiesTo}
use Rattle.cover_decompose.specs.Count.{decomposed}
use Rattle.cover_decompose.specs.Decomposition.{net_of_model}
use Rattle.journal_text.specs.Accepted.{Keeps}
use Rattle.journal_text.specs.Runs.{AcceptedTo, steps_of}
use Rattle.journal_text.specs.declared.record.Record.{Record}

-- the net after the steps
abbrev pub after : Net → List Step → Net
after net [] = net
after net (s ∷ steps) = after (stepped net s) steps

-- the steps are those of records that are accepted one after another
pub record AreAcceptedSteps (net : Net) (steps : List Step) : Type 0 where
  pub records : List Record
  pub last : Net
  pub are : steps_of records ≡ steps
  pub led : AcceptedTo net records last

-- how many wires so many of the steps leave
abbrev pub wires_after : Net → List Step → ℕ → ℕ
wires_after net steps count = wire_count (after net (take count steps))

-- no beginning of the steps leaves fewer wires than that of so many, and no longer one as few
pub record IsBest (net : Net) (steps : List Step) (taken : ℕ) : Type 0 where
  pub within : taken ≤ length steps
  pub fewest : (k : ℕ) → k ≤ length steps → wires_after net steps taken ≤ wires_after net steps k
  pub longest : (k : ℕ) → taken < k → k ≤ length steps → wires_after net steps taken < wires_after net steps k

-- the best beginning of the steps leads from the decomposition to a net, and the tidying order from there to the last one: records
-- of accepted steps do so, those after the beginning by local rules alone; the last net is tidy, has no more wires than the
-- decomposition, and keeps what is observed of it
pub record IsRebuilt (m : Model) (steps : List Step) (taken : ℕ) (last : Net) : Type 0 where
  pub best : IsBest (net_of_model m) steps taken
  pub order : TidiesTo (after (net_of_model m) (take taken steps)) last
  pub records : List Record
  pub more : List Record
  pub are : steps_of records ≡ take taken steps
  pub local : AllByRecursion IsTidying (steps_of more)
  pub led : AcceptedTo (net_of_model m) (records ++ more) last
  pub tidy : IsTidy last
  pub keeps : Keeps (net_of_model m) last
  pub fewer : wire_count last ≤ decomposed m
