use Rattle.std.proofs.Common.{◌≤◌, ◌+◌, map, take}
use Rattle.std.specs.Prelude.{slice_index}
use Rattle.gate_graph.specs.Circuit.{pins_taken}
use Rattle.cover_decompose.specs.Built.{IsBuilt}
use Rattle.cover_decompose.proofs.build.observe_all.Given as goal

abbrev pub invariant-loop-at : goal.invariant-loop-at
invariant-loop-at l = IsBuilt l.graph l.plan.made (map (slice_index l.plan.nodes) (take l.at l.observed)) × (pins_taken l.graph ≤ 65536 + l.at)
