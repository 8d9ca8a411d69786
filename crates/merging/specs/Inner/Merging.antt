-- What merging does from merge to merge.
use Rattle.std.specs.Prelude.{◌≡◌, ◌<◌, ◌≤◌, ◌+◌, ◌*◌, List, length}
use Rattle.gate_net.specs.Net.{wire_count}
use Rattle.gate_graph.specs.Circuit.{Circuit, net_of}
use Rattle.gate_graph.specs.Holds.{pins_held}
use Rattle.journal_text.specs.Runs.{AcceptedTo}
use Rattle.journal_text.specs.declared.record.Record.{Record}
use Rattle.recursive_learning.specs.Serving.{IsServing}
use Rattle.wire_edit.specs.Order.{IsTidy}
use Rattle.merging.specs.Inner.Going.{IsLent, Logs, most_steps}
use Rattle.merging.specs.Merged.{IsWithin}
use Rattle.merging.specs.declared.effort.Effort.{Effort}
use Rattle.merging.specs.declared.space.Space.{Space}

-- the depth and the budget are within their ranges
pub record IsEffort (e : Effort) : Type 0 where
  pub depth : e.depth ≤ 2
  pub budget : 0 < e.budget

-- a trial at the start of a tidy net, which the refuter serves
pub record IsReady (space : Space) : Type 0 where
  pub tidy : IsTidy (net_of space.trial.graph)
  pub lent : IsLent space.trial
  pub serves : IsServing (net_of space.trial.graph) space.refuter

-- records of accepted steps lead from the one graph to the other, which takes no more; for each wire that went there are as many
-- as a trial has room for
pub record HasMerged (before graph : Circuit) (old new : List Record) : Type 0 where
  pub logs : Logs (net_of before) (net_of graph) old new
  pub fewer : wire_count (net_of graph) ≤ wire_count (net_of before)
  pub within : IsWithin before graph
  pub few : length new + wire_count (net_of graph) * most_steps ≤ length old + wire_count (net_of before) * most_steps

-- accepted steps, as few as a trial has room for, lead from the one graph to the other, which takes no more
pub record HasBegun (before graph : Circuit) (records : List Record) : Type 0 where
  pub accepted : AcceptedTo (net_of before) records (net_of graph)
  pub fewer : wire_count (net_of graph) ≤ wire_count (net_of before)
  pub within : IsWithin before graph
  pub few : length records ≤ most_steps

-- the same net, of which undos hold as many pins
pub record IsSame (before graph : Circuit) : Type 0 where
  pub net : net_of graph ≡ net_of before
  pub held : pins_held graph ≡ pins_held before
