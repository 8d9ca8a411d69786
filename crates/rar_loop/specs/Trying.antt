-- What a try of a pair does.
use Rattle.std.specs.Prelude.{◌≡◌, ◌<◌, ◌≤◌, ◌+◌, ◌*◌, ◌∷◌, [], ℕ, Bool, true, false, List}
use Rattle.gate_net.specs.Net.{wire_count, source_count, gate_count}
use Rattle.wire_edit.specs.declared.steps.Step.{Step}
use Rattle.wire_edit.specs.declared.steps.Step.TheVariants.{NewNot}
use Rattle.gate_graph.specs.Circuit.{net_of, pins_taken, live_nodes}
use Rattle.wire_edit.specs.Refusals.{live_count, ceiling}
use Rattle.wire_edit.specs.Tried.{Tried}
use Rattle.wire_edit.specs.Work.{work}
use Rattle.rar_loop.specs.Sizes.{most_steps}

-- the last step makes no Not; the first argument tells whether the step before did
abbrev pub IsClean : Bool → List Step → Type 0
IsClean pending [] = pending ≡ false
IsClean pending (NewNot x ∷ steps) = IsClean true steps
IsClean pending (_ ∷ steps) = IsClean false steps

-- a trial at its start, with room for tries that gain, of which each leaves fewer wires
pub record IsLent (t : Tried) : Type 0 where
  pub entries : t.trail.entries ≡ []
  pub room : t.room ≡ t.first
  pub pins : 2 * wire_count (net_of t.graph) ≤ t.first.pins
  pub nodes : wire_count (net_of t.graph) ≤ t.first.nodes
  pub steps : 2 * wire_count (net_of t.graph) + 2 * (2 + source_count (net_of t.graph) + gate_count (net_of t.graph)) + 16 ≤ t.first.steps
  pub few_steps : t.first.steps ≤ most_steps
  pub few : pins_taken t.graph + live_nodes t.graph ≤ 1048576

-- there is room for the work and for as much more, and the net is far below the ceiling
pub record IsReadyToAdd (trial : Tried) (more : ℕ) : Type 0 where
  pub steps : work (net_of trial.graph) + more ≤ trial.room.steps
  pub wires : wire_count (net_of trial.graph) + more < ceiling
  pub nodes : live_count (net_of trial.graph) + more < ceiling
