-- Lists of calls of a trial, each as its contract tells it.
use Rattle.std.specs.Prelude.{◌≡◌, ◌≤◌, ℕ, zero, suc, Option, None, Some, Result, Err, List, [], ◌∷◌, ◌++◌}
use Rattle.gate_net.specs.Net.{IsWellFormed}
use Rattle.gate_graph.specs.Circuit.{Circuit, wiring, net_of, fanouts_of}
use Rattle.gate_graph.specs.Changes.{Edits}
use Rattle.wire_edit.specs.declared.steps.Step.{Step}
use Rattle.wire_edit.specs.declared.refusal.EditRefusal.{EditRefusal}
use Rattle.wire_edit.specs.Steps.{change_of}
use Rattle.wire_edit.specs.Refusals.{IsAnswer, room_after}
use Rattle.wire_edit.specs.Edited.{edit_of}
use Rattle.wire_edit.specs.Work.{work}
use Rattle.wire_edit.specs.Tried.{Tried, start_of, Tidies}

-- a trial of the graph that has just begun
pub record IsBegun (graph : Circuit) (trial : Tried) : Type 0 where
  pub start : start_of trial ≡ wiring graph
  pub epoch : trial.graph.epoch ≡ graph.epoch

-- what `apply` answers and leaves
pub record IsApplied (old new : Tried) (step : Step) (refusal : Option EditRefusal) : Type 0 where
  pub answer : IsAnswer (net_of old.graph) old.room step refusal
  pub made : refusal ≡ None → Edits old.graph (edit_of (change_of (net_of old.graph) step)) new.graph
  pub steps : refusal ≡ None → new.steps ≡ old.steps ++ step ∷ []
  pub room : refusal ≡ None → new.room ≡ room_after old.room step
  pub refused : (why : EditRefusal) → refusal ≡ Some why → new ≡ old
  pub start : start_of new ≡ start_of old
  pub epoch : new.graph.epoch ≡ old.graph.epoch

-- what `tidy_one` answers and leaves
pub record IsTidied (old new : Tried) (answer : Result (Option Step) EditRefusal) : Type 0 where
  pub tidies : Tidies old new answer
  pub start : start_of new ≡ start_of old
  pub epoch : new.graph.epoch ≡ old.graph.epoch

-- the graph that `rollback` gives
pub record IsRolledBack (trial : Tried) (graph : Circuit) : Type 0 where
  pub start : wiring graph ≡ start_of trial
  pub epoch : graph.epoch ≡ trial.graph.epoch

pub data Call : Type 0 where
  apply : (step : Step) → Call
  tidy_one : Call

-- the call is made, whatever it answers
abbrev pub IsCall : Tried → Call → Tried → Type 0
IsCall old (apply step) new = (refusal : Option EditRefusal) × IsApplied old new step refusal
IsCall old tidy_one new = (answer : Result (Option Step) EditRefusal) × IsTidied old new answer

-- the calls are made, one after another
abbrev pub AreCalls : Tried → List Call → Tried → Type 0
AreCalls old [] new = new ≡ old
AreCalls old (call ∷ calls) new = (next : Tried) × (IsCall old call next × AreCalls next calls new)

-- the same net and observed places, the same readers in order, the same epoch
pub record IsAsBefore (graph before : Circuit) : Type 0 where
  pub net : net_of graph ≡ net_of before
  pub readers : (n : ℕ) → fanouts_of graph n ≡ fanouts_of before n
  pub epoch : graph.epoch ≡ before.epoch

-- after any list of calls, refused ones among them, a rollback gives the graph as it was at the beginning
abbrev pub RollbackRestores : Type 0
RollbackRestores =
    (graph back : Circuit) (first last : Tried) (calls : List Call) → IsBegun graph first → AreCalls first calls last → IsRolledBack last back → IsAsBefore back graph

-- so many calls of `tidy_one`
abbrev pub tidy_calls : ℕ → List Call
tidy_calls zero = []
tidy_calls (suc n) = tidy_one ∷ tidy_calls n

-- a trial that has steps for the work of its net never answers a refusal while it tidies
abbrev pub TidyingHasRoom : Type 0
TidyingHasRoom =
    (first last new : Tried) (count : ℕ) (answer : Result (Option Step) EditRefusal) (why : EditRefusal) → IsWellFormed (net_of first.graph) → work (net_of first.graph) ≤ first.room.steps → AreCalls first (tidy_calls count) last
    → IsTidied last new answer → answer ≡ Err why → ⊥
