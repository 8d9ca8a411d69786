-- A workspace of the addition loop.
use Rattle.std.specs.Prelude.{◌≡◌, List}
use Rattle.rm_base.specs.declared.numbers.NodeId.{NodeId}
use Rattle.gate_net.specs.Edits.{IsSameBut}
use Rattle.gate_net.specs.Net.{Net, source_count}
use Rattle.fault_sim.specs.Following.{DiffersAmong}
use Rattle.gate_graph.specs.Circuit.{net_of}
use Rattle.wire_edit.specs.Order.{IsTidy}
use Rattle.recursive_learning.specs.Serving.{IsServing}
use Rattle.changed_nodes.specs.declared.changes.Changed.{Changed}
use Rattle.changed_nodes.specs.Changing.{AreNoted}
use Rattle.rar_loop.specs.Inner.Kept.{AreFor}
use Rattle.rar_loop.specs.Trying.{IsLent}
use Rattle.rar_loop.specs.declared.workspace.Workspace.{Workspace}
use Rattle.rm_base.specs.Numbers.{numbers_of}

-- what differed from an earlier net among the nodes that were touched before differs from it among those touched now
abbrev pub TouchesOn : Net → Net → List NodeId → List NodeId → Type 0
TouchesOn net after old new = (before : Net) → DiffersAmong before net (numbers_of old) → DiffersAmong before after (numbers_of new)

-- and so from any net with as many sources from which the changes to this one are noted
abbrev pub TouchesNoted : Net → Changed → List NodeId → List NodeId → Type 0
TouchesNoted after changed old new = (net : Net) → AreNoted net after changed → source_count after ≡ source_count net → TouchesOn net after old new

-- what detects and refutes faults is for this net
pub record HasToolsFor (net : Net) (space : Workspace) : Type 0 where
  pub vectors : AreFor space.vectors net
  pub refuter : IsServing net space.refuter

-- the vectors are for an earlier net, from which the workspace's one differs in what is noted; the refuter is for a net that differs from the earlier one among the added nodes
pub record CanFollow (space : Workspace) (changed : Changed) (added : List NodeId) : Type 0 where
  pub before : Net
  pub vectors : AreFor space.vectors before
  pub noted : AreNoted before (net_of space.trial.graph) changed
  pub sources : source_count (net_of space.trial.graph) ≡ source_count before
  pub served : Net
  pub refuter : IsServing served space.refuter
  pub near : IsSameBut before served (numbers_of added)

-- the vectors and the refuter are for a net that differs from the workspace's one among the nodes that were touched
pub record CanReturn (space : Workspace) : Type 0 where
  pub net : Net
  pub tools : HasToolsFor net space
  pub differs : DiffersAmong (net_of space.trial.graph) net (numbers_of space.touched.items)

-- a trial at the start of a tidy net, and all else fits it
pub record IsReady (space : Workspace) : Type 0 where
  pub tidy : IsTidy (net_of space.trial.graph)
  pub lent : IsLent space.trial
  pub tools : HasToolsFor (net_of space.trial.graph) space
