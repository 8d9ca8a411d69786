use Rattle.std.proofs.Common.{◌≡◌, map, take}
use Rattle.std.specs.Prelude.{slice_index}
use Rattle.cover_decompose.proofs.plan.Plan.nodes_of.Given as goal

abbrev pub invariant-loop-signal : goal.invariant-loop-signal
invariant-loop-signal l = l.nodes.items ≡ map (slice_index l.self.nodes) (take l.signal-index l.signals)
