-- Steps that are made one after another in a trial.
use Rattle.std.specs.Prelude.{◌≡◌, ℕ, ◌+◌, ◌≤◌, List, [], ◌∷◌, length}
use Rattle.gate_net.specs.Net.{Net, gate_count, source_count, wire_count}
use Rattle.gate_graph.specs.Holds.{pins_held}
use Rattle.wire_edit.specs.declared.steps.Step.{Step}
use Rattle.wire_edit.specs.Steps.{Applies, stepped}
use Rattle.wire_edit.specs.Tried.{Tried}
use Rattle.journal_text.specs.Accepted.{MayGrow}
use Rattle.step_replay.specs.declared.choosing.Best.{Best}
use Rattle.step_replay.specs.Rebuilding.{IsBest, wires_after}

-- small enough for trials
pub record IsSmall (net : Net) : Type 0 where
  pub wires : wire_count net ≤ 2147483648
  pub nodes : source_count net + gate_count net ≤ 1073741824
  pub observed : length net.observed ≤ 131072

-- the steps may be made, one after another, and each net on the way is small
abbrev pub AreMakeable : Net → List Step → Type 0
AreMakeable net [] = IsSmall net
AreMakeable net (s ∷ steps) = IsSmall net × (Applies net s × (MayGrow net s × AreMakeable (stepped net s) steps))

-- the steps so far are kept for good, and there is room for so many more
pub record IsReady (t : Tried) (left : ℕ) : Type 0 where
  pub entries : t.trail.entries ≡ []
  pub none_made : t.steps ≡ []
  pub held : pins_held t.graph ≡ 0
  pub pins : left ≤ t.room.pins
  pub nodes : left ≤ t.room.nodes
  pub steps : left ≤ t.room.steps
  pub first_steps : left ≤ t.first.steps

-- the best beginning, with its wires
pub record IsBestOf (net : Net) (steps : List Step) (b : Best) : Type 0 where
  pub best : IsBest net steps b.taken
  pub wires : b.wires ≡ wires_after net steps b.taken
