use Rattle.std.proofs.Common.{◌≡◌, length, map}
use Rattle.gate_graph.specs.Circuit.{net_of}
use Rattle.fault_sim.specs.Inner.BlockStates.{ArePlaced}
use Rattle.fault_sim.specs.Inner.Following.{AreFollowed}
use Rattle.fault_sim.proofs.blocks.follow_all.Given as goal

abbrev pub invariant-loop-block : goal.invariant-loop-block
invariant-loop-block l = record {
  followed : AreFollowed (net_of l.graph) (map (λ n. n.0) l.order) (length l.places) l.fn.blocks l.blocks l.block-index;
  count : length l.blocks ≡ length l.fn.blocks;
  placed : ArePlaced (map (λ n. n.0) l.order) l.places l.spread;
}
