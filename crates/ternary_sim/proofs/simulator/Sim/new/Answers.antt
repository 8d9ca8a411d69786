use Rattle.std.proofs.Common.{map}
use Rattle.rm_base.specs.declared.numbers.NodeId.{NodeId}
use Rattle.gate_graph.specs.Circuit.{net_of}
use Rattle.ternary_sim.proofs.InOrder.{order_below}
use Rattle.ternary_sim.proofs.Fitting.{fits_new}
use Rattle.ternary_sim.proofs.simulator.Sim.new.Goals as goal

pub with_order-requires : goal.with_order-requires
with_order-requires c = rw c.node_bound.ensures (order_below (net_of c.args.graph.now) (map (λ (n : NodeId). n.0) c.in_ok-order.order.items) c.in_ok-order.ensures)

pub returns-clause-fits : goal.returns-clause-fits
returns-clause-fits c =
    fits_new (net_of c.args.graph.now) c.source_count-sources.result (map (λ (n : NodeId). n.0) c.in_ok-order.order.items) c.with_order.result
    c.with_order.ensures.sources c.with_order.ensures.order c.source_count-sources.ensures c.in_ok-order.ensures
