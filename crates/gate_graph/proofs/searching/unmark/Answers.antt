use Rattle.std.proofs.Common.{refl, arith, length-set, false}
use Rattle.gate_graph.proofs.Marking.{lists-less, all-unmarked}
use Rattle.gate_graph.proofs.searching.unmark.Goals as goal

pub loop-i-preserved : goal.loop-i-preserved
loop-i-preserved c = lists-less c.loop-i.seen _ c.args.queue.now c.loop-i.i c.args.end c.loop-i.invariant refl (length-set c.loop-i.seen _ false)

pub returns : goal.returns
returns c = all-unmarked c.loop-i.seen c.args.queue.now c.loop-i.i c.args.end _ c.loop-i.invariant (omega arith) c.loop-i.auto.seen
