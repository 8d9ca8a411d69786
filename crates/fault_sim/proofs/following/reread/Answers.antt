use Rattle.std.proofs.Common.{length}
use Rattle.gate_graph.specs.Circuit.{net_of}
use Rattle.fault_sim.proofs.CatchingUp.{skip_to}
use Rattle.fault_sim.proofs.following.reread.Goals as goal
use Rattle.rm_base.specs.Numbers.{numbers_of}

pub reread_at-requires-clause-rereading : goal.reread_at-requires-clause-rereading
reread_at-requires-clause-rereading c =
    let first = rw c.as_slice.ensures.value at c.in-Some.ensures in
    skip_to (net_of c.args.graph.now) c.args.words.now (numbers_of c.args.order.now) c.loop-place.good.items c.loop-place.spread.pending.items c.loop-place.at c.in-Some.place first.1.1 c.loop-place.invariant.rereading

pub returns-clause-rereading : goal.returns-clause-rereading
returns-clause-rereading c =
    let none = rw c.as_slice.ensures.value at c.in_default.ensures in
    skip_to (net_of c.args.graph.now) c.args.words.now (numbers_of c.args.order.now) c.loop-place.good.items c.loop-place.spread.pending.items c.loop-place.at (length c.args.order.now) (λ k le less. none k le) c.loop-place.invariant.rereading
