use Rattle.std.proofs.Common.{subst, sym}
use Rattle.gate_graph.specs.Circuit.{net_of}
use Rattle.test_patterns.specs.Inner.Drafts.{HavePins}
use Rattle.test_patterns.proofs.Gathered.{pins_at}
use Rattle.test_patterns.proofs.compacting.compact.Goals as goal

pub greedy_order-requires : goal.greedy_order-requires
greedy_order-requires c = record { pins = subst (HavePins (net_of c.args.graph.now)) (sym c.as_slice.ensures.value) (pins_at (net_of c.args.graph.now) c.in_ok-faults.faults.items c.in_ok-faults.ensures.pins) }

pub assign_in_turn-requires-clause-pins : goal.assign_in_turn-requires-clause-pins
assign_in_turn-requires-clause-pins c = subst (HavePins (net_of c.args.graph.now)) (sym c.as_slice.ensures.value) (pins_at (net_of c.args.graph.now) c.in_ok-faults.faults.items c.in_ok-faults.ensures.pins)
