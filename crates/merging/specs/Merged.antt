-- What merging equal gates leaves.
use Rattle.std.specs.Prelude.{◌≡◌, ◌≤◌, ◌+◌}
use Rattle.gate_graph.specs.Circuit.{Circuit, live_nodes, pins_taken}
use Rattle.gate_graph.specs.Holds.{pins_held}

-- pins and nodes together are no more than they were, and undos hold as many pins
pub record IsWithin (before graph : Circuit) : Type 0 where
  pub size : pins_taken graph + live_nodes graph ≤ pins_taken before + live_nodes before
  pub held : pins_held graph ≡ pins_held before
