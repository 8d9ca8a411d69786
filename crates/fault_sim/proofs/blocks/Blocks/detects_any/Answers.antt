use Rattle.std.proofs.Common.{length}
use Rattle.gate_graph.specs.Circuit.{net_of}
use Rattle.fault_sim.proofs.Blocking.{each_simulated}
use Rattle.fault_sim.proofs.blocks.Blocks.detects_any.Goals as goal
use Rattle.rm_base.specs.Numbers.{numbers_of}

pub first_of-requires-clause-blocks : goal.first_of-requires-clause-blocks
first_of-requires-clause-blocks c =
    let before = rw (← c.self.view_is) at c.requires.simulated in
    rw (c.as_slice.ensures.value, c.as_slice-2.ensures.value, c.as_slice-3.ensures.value)
    (each_simulated (net_of c.args.question.now.graph.now) (numbers_of c.self.inside.order.items) (length c.self.inside.places.items) c.self.inside.blocks.items c.self.invariant.1.0 before)
