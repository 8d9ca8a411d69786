-- What fixes and tidying do inside a trial.
use Rattle.std.specs.Prelude.{◌≡◌, ◌≤◌, ◌+◌, ◌++◌, ◌∷◌, [], ℕ, List, length}
use Rattle.rm_base.specs.declared.numbers.Fault.{Fault}
use Rattle.gate_net.specs.Net.{Net, wire_count, gate_count, source_count}
use Rattle.gate_graph.specs.Circuit.{net_of}
use Rattle.gate_graph.specs.Holds.{HoldsOn}
use Rattle.refutation.specs.declared.items.Item.{Item}
use Rattle.wire_edit.specs.declared.steps.Step.{Step}
use Rattle.wire_edit.specs.declared.steps.Step.TheVariants.{Fix}
use Rattle.wire_edit.specs.Laws.{IsTidying}
use Rattle.wire_edit.specs.Tried.{Tried, start_of}
use Rattle.wire_edit.specs.Work.{free_pins, work}
use Rattle.journal_text.specs.declared.record.Record.{Record}
use Rattle.journal_text.specs.declared.record.Record.TheVariants as record_of
use Rattle.journal_text.specs.Runs.{AcceptedTo, AreRemovals, steps_of}

-- records of accepted removals were added, which lead from the one net to the other, and are no more than the work that went
pub record Logs (net after : Net) (old new : List Record) : Type 0 where
  pub more : List Record
  pub added : new ≡ old ++ more
  pub accepted : AcceptedTo net more after
  pub removals : AreRemovals (steps_of more)
  pub spent : length more + work after ≤ work net

-- nothing that counts grew, and sources and observed places are as many
pub record IsNoLarger (net after : Net) : Type 0 where
  pub wires : wire_count after ≤ wire_count net
  pub free : free_pins after ≤ free_pins net
  pub gates : gate_count after ≤ gate_count net
  pub numbers : length after.nodes ≤ length net.nodes
  pub sources : source_count after ≡ source_count net
  pub places : length after.observed ≡ length net.observed

-- each step that was made took one of the room and was recorded, and beside the trial's own undos as many pins are held
pub record Tallies (old new : Tried) (log log' : List Record) : Type 0 where
  pub spent : length log' + new.room.steps ≡ length log + old.room.steps
  pub holds : HoldsOn old.graph new.graph old.trail.entries new.trail.entries

-- of the room for pins and nodes at most so much was taken
pub record IsLeft (old new : Tried) (p n : ℕ) : Type 0 where
  pub pins : old.room.pins ≤ new.room.pins + p
  pub nodes : old.room.nodes ≤ new.room.nodes + n

-- the trial went on by recorded removals, as far as its room allows
pub record Goes (old new : Tried) (log log' : List Record) : Type 0 where
  pub logs : Logs (net_of old.graph) (net_of new.graph) log log'
  pub no_larger : IsNoLarger (net_of old.graph) (net_of new.graph)
  pub start : start_of new ≡ start_of old
  pub first : new.first ≡ old.first
  pub epoch : new.graph.epoch ≡ old.graph.epoch
  pub room : (k : ℕ) → work (net_of old.graph) + k ≤ old.room.steps → work (net_of new.graph) + k ≤ new.room.steps
  pub tallies : Tallies old new log log'
  pub left : IsLeft old new 0 0

-- neither an addition nor a fix nor a new Not
abbrev pub AreTidying : List Step → Type 0
AreTidying [] = Unit {0}
AreTidying (s ∷ steps) = IsTidying s × AreTidying steps

-- records of such steps were added
pub record AddsLocal (old new : List Record) : Type 0 where
  pub more : List Record
  pub added : new ≡ old ++ more
  pub local : AreTidying (steps_of more)

-- the fix was recorded with its tree, and then such steps
pub record HasFixed (fault : Fault) (tree : List Item) (old new : List Record) : Type 0 where
  pub rest : List Record
  pub are : new ≡ old ++ record_of.Step (Fix fault.gate fault.position fault.value) tree ∷ rest
  pub local : AreTidying (steps_of rest)
