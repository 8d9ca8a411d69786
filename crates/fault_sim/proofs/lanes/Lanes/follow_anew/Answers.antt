use Rattle.gate_graph.specs.Circuit.{net_of}
use Rattle.fault_sim.proofs.Blocking.{grown_good, lanes_of}
use Rattle.fault_sim.proofs.ReadInOrder.{order_is}
use Rattle.fault_sim.proofs.lanes.Lanes.follow_anew.Goals as goal
use Rattle.rm_base.specs.Numbers.{numbers_of}

pub catch_up-requires-clause-order : goal.catch_up-requires-clause-order
catch_up-requires-clause-order c = rw c.as_slice-2.ensures.value (order_is (net_of c.args.graph.now) (numbers_of c.in_ok-listing.listing.order.items) c.in_ok-listing.ensures.order)

pub catch_up-requires-clause-were : goal.catch_up-requires-clause-were
catch_up-requires-clause-were c =
    let follows = rw (← c.self.view_is) at c.requires.follows in
    record {
      before = follows.before;
      values = rw (c.as_slice.ensures.value, c.in_ok-grow_words.ensures.grown) (grown_good follows.before c.self.inside.words.items c.self.inside.good.items _ follows.simulated);
      differs = follows.differs;
    }

pub invariant_of-self-2 : goal.invariant_of-self-2
invariant_of-self-2 c =
    let placed = rw (c.as_slice-2.ensures.value, c.as_slice-3.ensures.value) at c.catch_up.ensures.placed in
    let block = rw (c.as_slice-2.ensures.value, c.as_slice-3.ensures.value) at c.catch_up.ensures.block in
    (lanes_of (numbers_of c.in_ok-listing.listing.order.items) c.in_ok-listing.listing.places.items c.catch_up.new.good.items c.catch_up.new.spread placed block, placed.rested)

pub returns-clause-simulated : goal.returns-clause-simulated
returns-clause-simulated c = rw c.as_slice.ensures.value at c.catch_up.ensures.good
