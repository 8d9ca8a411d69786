-- What steps do inside a trial.
use Rattle.std.specs.Prelude.{◌≡◌, ◌<◌, ◌≤◌, ◌+◌, ◌*◌, ◌++◌, [], ℕ, List, length}
use Rattle.rm_base.specs.Numbers.{numbers_of}
use Rattle.rm_base.specs.declared.numbers.NodeId.{NodeId}
use Rattle.gate_net.specs.Edits.{IsSameBut}
use Rattle.gate_net.specs.Net.{Net, gate_count, source_count, wire_count}
use Rattle.gate_graph.specs.Circuit.{net_of}
use Rattle.gate_graph.specs.Holds.{HoldsOn, held, pins_held}
use Rattle.wire_edit.specs.Tried.{Tried, start_of}
use Rattle.wire_edit.specs.Order.{IsTidy}
use Rattle.wire_edit.specs.Work.{work}
use Rattle.recursive_learning.specs.Serving.{IsServing}
use Rattle.journal_text.specs.declared.record.Record.{Record}
use Rattle.journal_text.specs.Runs.{AcceptedTo}
use Rattle.merging.specs.declared.space.Space.{Space}

-- what differed from an earlier net among the nodes that were touched before differs from it among those touched now
abbrev pub TouchesOn : Net → Net → List NodeId → List NodeId → Type 0
TouchesOn net after old new = (before : Net) → IsSameBut before net (numbers_of old) → IsSameBut before after (numbers_of new)

-- a trial has room for so many steps where pins and nodes together are at most 1,048,576
abbrev pub most_steps : ℕ
most_steps = 2097168

-- records of accepted steps were added, which lead from the one net to the other
pub record Logs (net after : Net) (old new : List Record) : Type 0 where
  pub more : List Record
  pub added : new ≡ old ++ more
  pub accepted : AcceptedTo net more after

-- the trial began where it began, and beside its own undos as many pins are held
pub record Stays (old new : Tried) : Type 0 where
  pub start : start_of new ≡ start_of old
  pub first : new.first ≡ old.first
  pub holds : HoldsOn old.graph new.graph old.trail.entries new.trail.entries

-- the trial went on by recorded steps, one of the room for each; they make at most so many gates, and at most so much of the room
-- goes beside what the work takes
pub record Goes (gates extra : ℕ) (old new : Tried) (log log' : List Record) : Type 0 where
  pub logs : Logs (net_of old.graph) (net_of new.graph) log log'
  pub made : gate_count (net_of new.graph) ≤ gate_count (net_of old.graph) + gates
  pub spent : length log' + new.room.steps ≡ length log + old.room.steps
  pub room : (k : ℕ) → work (net_of old.graph) + (extra + k) ≤ old.room.steps → work (net_of new.graph) + k ≤ new.room.steps

-- the trial stays, the refuter is for its net, and what changed is among the nodes that were touched
pub record Follows (old new : Space) : Type 0 where
  pub stays : Stays old.trial new.trial
  pub serves : IsServing (net_of new.trial.graph) new.refuter
  pub touches : TouchesOn (net_of old.trial.graph) (net_of new.trial.graph) old.touched.items new.touched.items

-- a trial at its start, with room for all that tidying may take after a merge
pub record IsLent (t : Tried) : Type 0 where
  pub entries : t.trail.entries ≡ []
  pub room : t.room ≡ t.first
  pub steps : 2 * wire_count (net_of t.graph) + 2 * (2 + source_count (net_of t.graph) + gate_count (net_of t.graph)) + 16 ≤ t.first.steps
  pub few_steps : t.first.steps ≤ most_steps

-- a merge was made and the net tidied, with a Not at most, which left fewer wires
pub record Pays (old new : Tried) (log log' : List Record) : Type 0 where
  pub goes : Goes 1 9 old new log log'
  pub tidy : IsTidy (net_of new.graph)
  pub fewer : wire_count (net_of new.graph) < wire_count (net_of old.graph)

-- what was done in the trial is kept for good
pub record HasKept (old new : Space) : Type 0 where
  pub net : net_of new.trial.graph ≡ net_of old.trial.graph
  pub entries : new.trial.trail.entries ≡ []
  pub room : new.trial.room ≡ record old.trial.room { steps = old.trial.first.steps }
  pub first : new.trial.first ≡ new.trial.room
  pub holds : pins_held new.trial.graph + length (held old.trial.trail.entries) ≡ pins_held old.trial.graph
  pub refuter : new.refuter ≡ old.refuter

-- the trial is where it began, and the refuter is for its net
pub record IsBack (start new : Space) : Type 0 where
  pub net : net_of new.trial.graph ≡ net_of start.trial.graph
  pub holds : pins_held new.trial.graph ≡ pins_held start.trial.graph
  pub lent : IsLent new.trial
  pub serves : IsServing (net_of new.trial.graph) new.refuter
