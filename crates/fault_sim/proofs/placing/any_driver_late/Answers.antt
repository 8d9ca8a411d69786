use Rattle.std.proofs.Common.{ℕ, ◌<◌}
use Rattle.std.specs.Prelude.{slice_index}
use Rattle.gate_graph.specs.Circuit.{net_of}
use Rattle.gate_net.specs.Net.{drivers_of}
use Rattle.refutation.proofs.Public.{yielded_more}
use Rattle.fault_sim.proofs.Lists.{each_of_more}
use Rattle.fault_sim.proofs.placing.any_driver_late.Goals as goal
use Rattle.rm_base.proofs.Public.{yielded_whole}

pub loop-driver-preserved : goal.loop-driver-preserved
loop-driver-preserved c = record {
  all = yielded_more (λ n. n.0) (drivers_of (net_of c.args.graph.now) c.args.node.0) c.loop-driver.yielded c.in-Some.driver _ _ c.loop-driver.invariant.all c.in-Some.ensures.steps;
  before = each_of_more (λ (d : ℕ). slice_index c.args.places.now d < c.args.place) c.loop-driver.yielded c.in-Some.driver c.loop-driver.invariant.before (c.is_late.ensures c.if-is_late.false);
}

pub returns : goal.returns
returns c _ p d reads =
    let all = yielded_whole (λ n. n.0) (drivers_of (net_of c.args.graph.now) c.args.node.0) c.loop-driver.yielded _ c.loop-driver.invariant.all c.in-None.ensures.steps.0 in
    c.loop-driver.invariant.before p d (rw all at reads)
