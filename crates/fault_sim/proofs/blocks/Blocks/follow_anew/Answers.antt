use Rattle.std.proofs.Common.{List, length, subst, sym, ℕ, ◌∙◌, ◌≤◌}
use Rattle.gate_graph.specs.Circuit.{net_of}
use Rattle.std.proofs.Math.Seq.{take-length}
use Rattle.fault_sim.proofs.Blocking.{all_followed, all_simulated, as_many, blocks_followed, blocks_were, grown_were, written}
use Rattle.fault_sim.proofs.ReadInOrder.{order_is}
use Rattle.fault_sim.specs.BlockStates.{AreSimulated}
use Rattle.fault_sim.specs.Inner.BlockStates.{AreBlocks, ArePlaced, good_of, words_of}
use Rattle.fault_sim.specs.declared.blocks.Block.{Block}
use Rattle.fault_sim.proofs.blocks.Blocks.follow_anew.Goals as goal
use Rattle.rm_base.specs.Numbers.{numbers_of}

pub follow_all-requires-clause-order : goal.follow_all-requires-clause-order
follow_all-requires-clause-order c = rw c.as_slice.ensures.value (order_is (net_of c.args.graph.now) (numbers_of c.in_ok-listing.listing.order.items) c.in_ok-listing.ensures.order)

pub follow_all-requires-clause-blocks : goal.follow_all-requires-clause-blocks
follow_all-requires-clause-blocks c =
    let follows = rw (← c.self.view_is) at c.requires.follows in
    let longer = rw (c.len-3.ensures ∙ c.in_ok-listing.listing.places.ok.0) at c.in_ok-lengthen.ensures.grown in
    rw (c.as_mut_slice.ensures.value, c.as_slice-2.ensures.value)
    (grown_were (net_of c.args.graph.now) (numbers_of c.args.changed.now) (length c.self.inside.places.items) (length c.in_ok-listing.listing.places.items) c.self.inside.blocks.items c.lengthen.new.blocks.items (length c.self.inside.blocks.items)
    (rw (c.len.ensures ∙ c.self.inside.places.ok.0) at c.in_ok-listing.ensures.numbers)
    (blocks_were (net_of c.args.graph.now) (numbers_of c.self.inside.order.items) (numbers_of c.args.changed.now) (length c.self.inside.places.items) c.self.inside.blocks.items c.self.invariant.1.0 follows) longer)

pub invariant_of-self-2 : goal.invariant_of-self-2
invariant_of-self-2 c =
    let longer = rw (c.len-3.ensures ∙ c.in_ok-listing.listing.places.ok.0) at c.in_ok-lengthen.ensures.grown in
    let few : length c.lengthen.new.blocks.items ≤ 67108864 = subst (λ (n : ℕ). n ≤ 67108864) (sym (as_many c.self.inside.blocks.items c.lengthen.new.blocks.items (rw take-length at longer.words))) c.self.invariant.1.1 in
    let placed = rw (c.as_slice.ensures.value, c.as_slice-2.ensures.value) at c.follow_all.ensures.placed in
    let followed = rw (c.as_slice.ensures.value, c.as_slice-2.ensures.value) at c.follow_all.ensures.followed in
    subst (λ (bs : List Block). ArePlaced (numbers_of c.in_ok-listing.listing.order.items) c.in_ok-listing.listing.places.items c.follow_all.new.spread × (AreBlocks (numbers_of c.in_ok-listing.listing.order.items) (length c.in_ok-listing.listing.places.items) bs × (length bs ≤ 67108864)))
    (sym (written c.lengthen.new.blocks.len c.lengthen.new.blocks.items c.as_mut_slice.result.now c.follow_all.new.blocks c.lengthen.new.blocks.ok.0 c.as_mut_slice.ensures.value c.follow_all.ensures.count))
    (blocks_followed (net_of c.args.graph.now) (numbers_of c.in_ok-listing.listing.order.items) c.in_ok-listing.listing.places.items c.follow_all.new.spread c.as_mut_slice.result.now c.follow_all.new.blocks placed c.follow_all.ensures.count
    (rw c.as_mut_slice.ensures.value few) followed)

pub returns-clause-simulated : goal.returns-clause-simulated
returns-clause-simulated c =
    let followed = rw (c.as_slice.ensures.value, c.as_slice-2.ensures.value) at c.follow_all.ensures.followed in
    subst (λ (bs : List Block). AreSimulated (record { words = words_of bs; order = numbers_of c.in_ok-listing.listing.order.items; good = good_of bs }) (net_of c.args.graph.now))
    (sym (written c.lengthen.new.blocks.len c.lengthen.new.blocks.items c.as_mut_slice.result.now c.follow_all.new.blocks c.lengthen.new.blocks.ok.0 c.as_mut_slice.ensures.value c.follow_all.ensures.count))
    (all_simulated (net_of c.args.graph.now) (numbers_of c.in_ok-listing.listing.order.items) (length c.in_ok-listing.listing.places.items) c.follow_all.new.blocks
    (order_is (net_of c.args.graph.now) (numbers_of c.in_ok-listing.listing.order.items) c.in_ok-listing.ensures.order)
    (all_followed (net_of c.args.graph.now) (numbers_of c.in_ok-listing.listing.order.items) (length c.in_ok-listing.listing.places.items) c.as_mut_slice.result.now c.follow_all.new.blocks c.follow_all.ensures.count followed))
