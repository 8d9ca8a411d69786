use Rattle.std.proofs.Common.{List, length, subst, sym, ◌≤◌}
use Rattle.gate_graph.specs.Circuit.{net_of}
use Rattle.fault_sim.proofs.Blocking.{all_followed, all_simulated, blocks_followed, blocks_were, written}
use Rattle.fault_sim.proofs.CatchingUp.{still_ordered}
use Rattle.fault_sim.specs.BlockStates.{AreSimulated}
use Rattle.fault_sim.specs.Inner.BlockStates.{AreBlocks, ArePlaced, good_of, words_of}
use Rattle.fault_sim.specs.declared.blocks.Block.{Block}
use Rattle.fault_sim.proofs.blocks.Blocks.follow.Goals as goal
use Rattle.rm_base.specs.Numbers.{numbers_of}

pub follow_all-requires-clause-order : goal.follow_all-requires-clause-order
follow_all-requires-clause-order c =
    let follows = rw (← c.self.view_is) at c.requires.follows in
    let stand = rw (c.as_slice.ensures.value, c.as_slice-2.ensures.value) at (c.any_misplaced.ensures c.if-any_misplaced.false) in
    rw c.as_slice-3.ensures.value
    (still_ordered follows.before (net_of c.args.graph.now) (numbers_of c.self.inside.order.items) c.self.inside.places.items (numbers_of c.args.changed.now) follows.simulated.order c.self.invariant.0.places_are follows.differs stand)

pub follow_all-requires-clause-blocks : goal.follow_all-requires-clause-blocks
follow_all-requires-clause-blocks c =
    let follows = rw (← c.self.view_is) at c.requires.follows in
    rw (c.as_mut_slice.ensures.value, c.as_slice-4.ensures.value)
    (blocks_were (net_of c.args.graph.now) (numbers_of c.self.inside.order.items) (numbers_of c.args.changed.now) (length c.self.inside.places.items) c.self.inside.blocks.items c.self.invariant.1.0 follows)

pub invariant_of-self : goal.invariant_of-self
invariant_of-self c =
    let placed = rw (c.as_slice-3.ensures.value, c.as_slice-4.ensures.value) at c.follow_all.ensures.placed in
    let followed = rw (c.as_slice-3.ensures.value, c.as_slice-4.ensures.value) at c.follow_all.ensures.followed in
    subst (λ (bs : List Block). ArePlaced (numbers_of c.self.inside.order.items) c.self.inside.places.items c.follow_all.new.spread × (AreBlocks (numbers_of c.self.inside.order.items) (length c.self.inside.places.items) bs × (length bs ≤ 67108864)))
    (sym (written c.self.inside.blocks.len c.self.inside.blocks.items c.as_mut_slice.result.now c.follow_all.new.blocks c.self.inside.blocks.ok.0 c.as_mut_slice.ensures.value c.follow_all.ensures.count))
    (blocks_followed (net_of c.args.graph.now) (numbers_of c.self.inside.order.items) c.self.inside.places.items c.follow_all.new.spread c.as_mut_slice.result.now c.follow_all.new.blocks placed c.follow_all.ensures.count
    (rw c.as_mut_slice.ensures.value c.self.invariant.1.1) followed)

pub returns-clause-simulated : goal.returns-clause-simulated
returns-clause-simulated c =
    let follows = rw (← c.self.view_is) at c.requires.follows in
    let stand = rw (c.as_slice.ensures.value, c.as_slice-2.ensures.value) at (c.any_misplaced.ensures c.if-any_misplaced.false) in
    let followed = rw (c.as_slice-3.ensures.value, c.as_slice-4.ensures.value) at c.follow_all.ensures.followed in
    subst (λ (bs : List Block). AreSimulated (record { words = words_of bs; order = numbers_of c.self.inside.order.items; good = good_of bs }) (net_of c.args.graph.now))
    (sym (written c.self.inside.blocks.len c.self.inside.blocks.items c.as_mut_slice.result.now c.follow_all.new.blocks c.self.inside.blocks.ok.0 c.as_mut_slice.ensures.value c.follow_all.ensures.count))
    (all_simulated (net_of c.args.graph.now) (numbers_of c.self.inside.order.items) (length c.self.inside.places.items) c.follow_all.new.blocks
    (still_ordered follows.before (net_of c.args.graph.now) (numbers_of c.self.inside.order.items) c.self.inside.places.items (numbers_of c.args.changed.now) follows.simulated.order c.self.invariant.0.places_are follows.differs stand)
    (all_followed (net_of c.args.graph.now) (numbers_of c.self.inside.order.items) (length c.self.inside.places.items) c.as_mut_slice.result.now c.follow_all.new.blocks c.follow_all.ensures.count followed))
