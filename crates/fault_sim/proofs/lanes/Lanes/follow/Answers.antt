use Rattle.std.proofs.Common.{sym, ◌∙◌}
use Rattle.gate_graph.specs.Circuit.{net_of}
use Rattle.fault_sim.proofs.Blocking.{lanes_of}
use Rattle.fault_sim.proofs.CatchingUp.{still_ordered}
use Rattle.fault_sim.proofs.lanes.Lanes.follow.Goals as goal
use Rattle.rm_base.specs.Numbers.{numbers_of}

pub catch_up-requires-clause-order : goal.catch_up-requires-clause-order
catch_up-requires-clause-order c =
    let follows = rw (← c.self.view_is) at c.requires.follows in
    let stand = rw (c.as_slice.ensures.value, c.as_slice-2.ensures.value) at (c.any_misplaced.ensures c.if-any_misplaced.false) in
    rw c.as_slice-4.ensures.value
    (still_ordered follows.before (net_of c.args.graph.now) (numbers_of c.self.inside.order.items) c.self.inside.places.items (numbers_of c.args.changed.now) follows.fits.order c.self.invariant.0.places_are follows.differs stand)

pub invariant_of-self : goal.invariant_of-self
invariant_of-self c =
    let placed = rw (c.as_slice-4.ensures.value, c.as_slice-5.ensures.value) at c.catch_up.ensures.placed in
    let block = rw (c.as_slice-4.ensures.value, c.as_slice-5.ensures.value) at c.catch_up.ensures.block in
    (lanes_of (numbers_of c.self.inside.order.items) c.self.inside.places.items c.catch_up.new.good.items c.catch_up.new.spread placed block, placed.rested)

pub returns-clause-fits : goal.returns-clause-fits
returns-clause-fits c =
    let follows = rw (← c.self.view_is) at c.requires.follows in
    let stand = rw (c.as_slice.ensures.value, c.as_slice-2.ensures.value) at (c.any_misplaced.ensures c.if-any_misplaced.false) in
    record {
      sources = follows.fits.sources ∙ sym follows.differs.sources;
      order = still_ordered follows.before (net_of c.args.graph.now) (numbers_of c.self.inside.order.items) c.self.inside.places.items (numbers_of c.args.changed.now) follows.fits.order c.self.invariant.0.places_are follows.differs stand;
    }

pub returns-clause-simulated : goal.returns-clause-simulated
returns-clause-simulated c = rw c.as_slice-3.ensures.value at c.catch_up.ensures.good
