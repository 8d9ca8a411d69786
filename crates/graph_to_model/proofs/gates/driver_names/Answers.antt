use Rattle.std.proofs.Common.{◌<◌, length, ◌∙◌, arith}
use Rattle.rm_base.specs.declared.numbers.NodeId.{NodeId}
use Rattle.gate_graph.specs.Circuit.{net_of}
use Rattle.gate_net.specs.Net.{drivers_of}
use Rattle.wire_edit.proofs.Public.{march}
use Rattle.graph_to_model.specs.Inner.Making.{named}
use Rattle.graph_to_model.proofs.Steps.{driver_low, made_step, name_here}
use Rattle.graph_to_model.proofs.gates.driver_names.Goals as goal

pub bounds-names-driver : goal.bounds-names-driver
bounds-names-driver c =
    let low = driver_low (net_of c.args.graph.now) c.args.node.0 c.loop-driver.yielded _ _ c.in-Some.driver.0 c.well_formed-2.ensures.net c.loop-driver.invariant.all c.in-Some.ensures.steps in
    omega (arith, low, c.requires.names)

pub loop-driver-preserved : goal.loop-driver-preserved
loop-driver-preserved c =
    let low = driver_low (net_of c.args.graph.now) c.args.node.0 c.loop-driver.yielded _ _ c.in-Some.driver.0 c.well_formed-2.ensures.net c.loop-driver.invariant.all c.in-Some.ensures.steps in
    let within : c.in-Some.driver.0 < length c.args.names.now = omega (arith, low, c.requires.names) in
    record {
      all = march (λ (n : NodeId). n.0) (drivers_of (net_of c.args.graph.now) c.args.node.0) c.loop-driver.yielded _ _ c.in-Some.driver c.loop-driver.invariant.all c.in-Some.ensures.steps;
      made = made_step (named c.args.names.now) c.loop-driver.drivers.items _ _ _ _ c.in-Some.driver.0 _ c.in_ok-push.ensures.items c.in-Some.ensures.steps (c.in_ok-copy_name.ensures ∙ name_here c.args.names.now c.in-Some.driver.0 _ within c.index-names-driver.is) c.loop-driver.invariant.made;
    }
