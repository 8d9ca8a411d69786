use Rattle.fault_sim.specs.Inner.Following.{AreGrown}
use Rattle.fault_sim.proofs.blocks.all_grown.Given as goal

abbrev pub invariant-loop-block : goal.invariant-loop-block
invariant-loop-block l = AreGrown l.numbers l.blocks l.longer.items l.block-index
