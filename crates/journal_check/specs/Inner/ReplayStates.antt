-- The graph of a replay at work.
use Rattle.std.specs.Prelude.{◌≡◌, ◌≢◌, ℕ, ◌≤◌, List, [], ◌∷◌, drop, length, Option, Some, None, Result, Ok, Err}
use Rattle.std.specs.List.{AllByRecursion}
use Rattle.rm_base.specs.declared.numbers.Fault.{Fault}
use Rattle.gate_net.specs.Net.{Net, source_count}
use Rattle.gate_net.specs.Values.{HasPin}
use Rattle.gate_net.specs.Faults.{faults_of}
use Rattle.gate_graph.specs.Circuit.{Circuit, net_of}
use Rattle.gate_graph.specs.Holds.{pins_held}
use Rattle.fault_sim.specs.LaneStates.{Fits}
use Rattle.wire_edit.specs.declared.steps.Step.{Step}
use Rattle.wire_edit.specs.Order.{next_step, IsTidy}
use Rattle.wire_edit.specs.Tried.{Tried}
use Rattle.journal_text.specs.declared.record.Record.{Record}
use Rattle.journal_text.specs.declared.record.Record.TheVariants as kept
use Rattle.journal_check.specs.declared.state.ReplayState.{ReplayState}
use Rattle.journal_check.specs.declared.state.ReplayState.TheVariants.{Idle, Trying, Frozen}
use Rattle.journal_check.specs.declared.refusal.Why.{Why}
use Rattle.journal_check.specs.declared.refusal.Why.TheVariants as why
use Rattle.journal_check.specs.declared.settling.Settling.{Settling}
use Rattle.journal_check.specs.Replaying.{Position, editing, settling, goes_on, refused, EndLeads, Leads, VerdictLeads}
use Rattle.wire_edit.specs.Steps.{gate_of_step}
use Rattle.journal_check.specs.Inner.Batches.{IsBatch}
use Rattle.journal_check.specs.Inner.Within.{IsWithin}

-- the faults that are still to come
abbrev pub left_of : Settling → List Fault
left_of s = drop s.settled s.faults.items

abbrev pub head_of : List Fault → Option Fault
head_of [] = None
head_of (f ∷ fs) = Some f

-- the lanes and the batches are of the net, there is a word for each source, and each fault that is left has its pin
pub record IsSettling (net : Net) (s : Settling) : Type 0 where
  pub batches : AllByRecursion (IsBatch net) s.batches.kept.items
  pub fits : Fits s.lanes net
  pub words : length s.words.items ≡ source_count net
  pub within : s.settled ≤ length s.faults.items
  pub pins : AllByRecursion (HasPin net) (left_of s)

-- no undos hold a pin, and the net is small enough
pub record IsIdle (g : Circuit) : Type 0 where
  pub held : pins_held g ≡ 0
  pub within : IsWithin (net_of g)

-- the steps so far are kept for good, and there is room for so many more
pub record IsReady (t : Tried) (left : ℕ) : Type 0 where
  pub entries : t.trail.entries ≡ []
  pub none_made : t.steps ≡ []
  pub idle : IsIdle t.graph
  pub pins : left ≤ t.room.pins
  pub nodes : left ≤ t.room.nodes
  pub steps : left ≤ t.room.steps
  pub first_steps : left ≤ t.first.steps

abbrev pub IsReplayState : ReplayState → Type 0
IsReplayState (Idle g) = IsIdle g
IsReplayState (Trying t left) = IsReady t left
IsReplayState (Frozen g s) = IsIdle g × IsSettling (net_of g) s

abbrev pub net_in : ReplayState → Net
net_in (Idle g) = net_of g
net_in (Trying t left) = net_of t.graph
net_in (Frozen g s) = net_of g

abbrev pub position_of : ReplayState → Position
position_of (Idle g) = editing (net_of g)
position_of (Trying t left) = editing (net_of t.graph)
position_of (Frozen g s) = settling (net_of g) (left_of s)

-- a state where steps may be made
pub record IsEditing (b : ReplayState) : Type 0 where
  pub state : IsReplayState b
  pub editing_at : position_of b ≡ editing (net_in b)

-- the fault of a record is to be the next one
abbrev pub Expects : List Fault → Fault → Result Fault Why → Type 0
Expects [] given answer = answer ≡ Err why.RecordExtra
Expects (f ∷ fs) given (Ok g) = (g ≡ f) × (given ≡ f)
Expects (f ∷ fs) given (Err w) = (given ≢ f) × (w ≡ why.FaultMissing f)

-- a record settles the next fault, or is refused and changes nothing
abbrev pub VerdictSays : Net → ℕ → List Fault → Record → List Fault → Result (Unit {0}) Why → Type 0
VerdictSays net budget fs r gs (Ok _) = VerdictLeads net budget fs r (goes_on (settling net gs))
VerdictSays net budget fs r gs (Err w) = (gs ≡ fs) × (w ≢ why.NoMemory → VerdictLeads net budget fs r (refused w))

-- what is to be settled of a net: all its faults, if it is tidy
abbrev pub Freezes : Net → Result Settling Why → Type 0
Freezes net (Ok s) = IsTidy net × ((left_of s ≡ faults_of net) × IsSettling net s)
Freezes net (Err w) = w ≢ why.NoMemory → (s : Step) × ((next_step net ≡ Some s) × (w ≡ why.NotTidy (gate_of_step s)))

-- a net is frozen where it is tidy; one that is frozen stays so
abbrev pub IsFrozen : Position → Result (Circuit × Settling) Why → Type 0
IsFrozen (editing net) (Ok p) = IsTidy net × ((net_of p.0 ≡ net) × (left_of p.1 ≡ faults_of net))
IsFrozen (editing net) (Err w) = w ≢ why.NoMemory → (s : Step) × ((next_step net ≡ Some s) × (w ≡ why.NotTidy (gate_of_step s)))
IsFrozen (settling net fs) (Ok p) = (net_of p.0 ≡ net) × (left_of p.1 ≡ fs)
IsFrozen (settling net fs) (Err w) = ⊥

-- what the end says: the last net, or a refusal
abbrev pub EndSays : Position → Result Circuit Why → Type 0
EndSays p (Ok g) = EndLeads p (goes_on (settling (net_of g) []))
EndSays p (Err w) = w ≢ why.NoMemory → EndLeads p (refused w)

-- a hit or a spent search
abbrev pub IsVerdict : Record → Type 0
IsVerdict (kept.Step s tree) = ⊥
IsVerdict _ = Unit {0}

-- what a record says, and where the replay stands then; a refused record changes nothing
abbrev pub RecordSays : ℕ → Position → Record → Position → Result (Unit {0}) Why → Type 0
RecordSays budget p r q (Ok _) = Leads budget p r (goes_on q)
RecordSays budget p r q (Err w) = (q ≡ p) × (w ≢ why.NoMemory → Leads budget p r (refused w))
