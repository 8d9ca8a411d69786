-- Trying pairs for an exchange.
use Rattle.std.specs.Prelude.{◌≡◌, ◌≤◌, ◌<◌, ◌+◌, ℕ, List, None, Option, Some, Vec, length, max}
use Rattle.rm_base.specs.declared.numbers.Fault.{Fault}
use Rattle.gate_net.specs.Net.{Net, gate_count, source_count}
use Rattle.gate_graph.specs.Circuit.{Circuit, net_of}
use Rattle.wire_edit.specs.Order.{IsTidy}
use Rattle.wire_edit.specs.Tried.{Tried}
use Rattle.journal_text.specs.declared.record.Record.{Record}
use Rattle.journal_text.specs.Runs.{AcceptedTo, steps_of}
use Rattle.rar_loop.specs.Perturbed.{IsExchange}
use Rattle.rar_loop.specs.Sizes.{IsWithin, most_steps}
use Rattle.rar_loop.specs.Trying.{IsLent}
use Rattle.rar_loop.specs.Inner.Trying.{IsBack}

-- node numbers below a bound suffice for the net and for what exchanges make of it
pub record HasNumbers (net : Net) (numbers : ℕ) : Type 0 where
  pub nodes : length net.nodes ≤ numbers
  pub live : 3 + source_count net + gate_count net ≤ numbers

-- the records exchange the target, by accepted steps to a tidy graph that takes no more
pub record IsExchanged (before : Circuit) (target : Fault) (depth : ℕ) (records : List Record) (graph : Circuit) : Type 0 where
  pub accepted : AcceptedTo (net_of before) records (net_of graph)
  pub exchange : IsExchange (net_of before) target depth (steps_of records) (net_of graph)
  pub tidy : IsTidy (net_of graph)
  pub within : IsWithin before graph
  pub sources : source_count (net_of graph) ≡ source_count (net_of before)
  pub numbers : length (net_of graph).nodes ≤ max (length (net_of before).nodes) (3 + source_count (net_of before) + gate_count (net_of before))
  pub few : length records ≤ most_steps

-- the target was exchanged and the trial may be lent again; or all is as it was
abbrev pub IsExchangeTry : {Y : Type 0} → Tried → Fault → ℕ → Tried → Option (Vec Record Y) → Type 0
IsExchangeTry before target depth now None = IsBack before now
IsExchangeTry before target depth now (Some records) = IsExchanged before.graph target depth records.items now.graph × IsLent now

-- the same, where an exchange took at least one of the tries that were left
abbrev pub IsTargetTry : {Y : Type 0} → Tried → Fault → ℕ → ℕ → ℕ → Tried → Option (Vec Record Y) → Type 0
IsTargetTry before target depth left after now None = IsBack before now × (after ≤ left)
IsTargetTry before target depth left after now (Some records) = (IsExchanged before.graph target depth records.items now.graph × IsLent now) × (after < left)

-- the same of the target at a place
abbrev pub IsPlaceTry : {Y : Type 0} → Tried → ℕ → ℕ → ℕ → ℕ → ℕ → Tried → Option (Vec Record Y) → Type 0
IsPlaceTry before gate position depth left after now None = IsBack before now × (after ≤ left)
IsPlaceTry before gate position depth left after now (Some records) =
    (target : Fault) × ((target.gate.0 ≡ gate) × ((target.position ≡ position) × ((IsExchanged before.graph target depth records.items now.graph × IsLent now) × (after < left))))
