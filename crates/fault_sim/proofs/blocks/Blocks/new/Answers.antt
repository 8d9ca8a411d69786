use Rattle.std.proofs.Common.{ap, arith, length, subst, sym, ◌≡◌}
use Rattle.fault_sim.proofs.Blocking.{no_blocks}
use Rattle.fault_sim.specs.Inner.BlockStates.{AreBlocks}
use Rattle.fault_sim.proofs.blocks.Blocks.new.Goals as goal
use Rattle.rm_base.specs.Numbers.{numbers_of}

pub invariant_of-result : goal.invariant_of-result
invariant_of-result c = (
  c.in_ok-listing.ensures.placed,
  (
    subst (AreBlocks (numbers_of c.in_ok-listing.listing.order.items) (length c.in_ok-listing.listing.places.items)) (sym c.new-blocks.ensures.items) (no_blocks (numbers_of c.in_ok-listing.listing.order.items) (length c.in_ok-listing.listing.places.items)),
    (let none : length c.new-blocks.result.items ≡ 0 = ap length c.new-blocks.ensures.items in omega (arith, none)),
  ),
)
