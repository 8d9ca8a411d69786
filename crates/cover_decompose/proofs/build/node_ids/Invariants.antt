use Rattle.std.proofs.Common.{◌≡◌, map, take}
use Rattle.cover_decompose.proofs.build.node_ids.Given as goal

abbrev pub invariant-loop-node : goal.invariant-loop-node
invariant-loop-node l = map (λ id. id.0) l.ids.items ≡ take l.node-index l.nodes
