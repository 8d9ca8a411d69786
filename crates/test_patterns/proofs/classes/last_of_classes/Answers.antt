use Rattle.std.proofs.Common.{take}
use Rattle.std.proofs.lemmas.Option.{slice_get-get_or}
use Rattle.std.specs.Prelude.{false, slice_index_or}
use Rattle.gate_net.specs.Faults.{fault_at}
use Rattle.rm_base.proofs.Public.{take_one_more}
use Rattle.gate_graph.specs.Circuit.{net_of}
use Rattle.test_patterns.proofs.Leading.{last_more}
use Rattle.test_patterns.proofs.classes.last_of_classes.Goals as goal

pub loop-at-preserved : goal.loop-at-preserved
loop-at-preserved c =
    let f = slice_index_or c.args.faults.now c.loop-at.at (fault_at 0 0 false) in
    let there = slice_get-get_or c.args.faults.now c.loop-at.at (fault_at 0 0 false) c.loop-at-test.true in
    rw (c.in_ok-push.ensures.items, take_one_more c.args.faults.now c.loop-at.at f there)
    (last_more (net_of c.args.graph.now) (take c.loop-at.at c.args.faults.now) f c.loop-at.lasts.items c.leads_on.result c.loop-at.invariant c.leads_on.ensures)
