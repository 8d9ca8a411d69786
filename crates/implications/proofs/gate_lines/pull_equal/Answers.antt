use Rattle.std.proofs.Common.{None, Some, false, subst}
use Rattle.gate_graph.specs.Circuit.{net_of}
use Rattle.gate_net.specs.Net.{drivers_of}
use Rattle.implications.proofs.GateLines.{pulled_placed, some_equal_pin}
use Rattle.implications.proofs.gate_lines.pull_equal.Goals as goal
use Rattle.implications.specs.Inner.Pulls.{IsEqualPull}
use Rattle.refutation.specs.FactSets.{held_by}
use Rattle.refutation.proofs.Public.{pins_length}
use Rattle.refutation.specs.Pins.{IsScan, known_on, pins_of}
use Rattle.refutation.specs.declared.pins.Aspect.TheVariants.{OfEqual}

pub find_driver-requires : goal.find_driver-requires
find_driver-requires c =
    let h : IsScan c.look_at_facts-scan.result false (pins_of None OfEqual (held_by c.args.facts.now) (drivers_of (net_of c.args.graph.now) c.args.node.0)) = subst (λ ds. IsScan c.look_at_facts-scan.result false (pins_of None OfEqual (held_by c.args.facts.now) ds)) c.gate_pins.ensures.drivers c.look_at_facts-scan.ensures in
    let pull : IsEqualPull (pins_of None OfEqual (held_by c.args.facts.now) (drivers_of (net_of c.args.graph.now) c.args.node.0)) (known_on OfEqual (held_by c.args.facts.now) c.args.node.0) (Some c.in_ok-pull.pull) = subst (λ k. IsEqualPull (pins_of None OfEqual (held_by c.args.facts.now) (drivers_of (net_of c.args.graph.now) c.args.node.0)) k (Some c.in_ok-pull.pull)) c.known_of.ensures (c.in_ok-pull.ensures (pins_of None OfEqual (held_by c.args.facts.now) (drivers_of (net_of c.args.graph.now) c.args.node.0)) h) in
    some_equal_pin (pins_of None OfEqual (held_by c.args.facts.now) (drivers_of (net_of c.args.graph.now) c.args.node.0)) (known_on OfEqual (held_by c.args.facts.now) c.args.node.0) (drivers_of (net_of c.args.graph.now) c.args.node.0) c.in_ok-pull.pull pull (pins_length None (known_on OfEqual (held_by c.args.facts.now)) (drivers_of (net_of c.args.graph.now) c.args.node.0)) c.gate_pins.ensures.few

pub returns : goal.returns
returns c =
    let h : IsScan c.look_at_facts-scan.result false (pins_of None OfEqual (held_by c.args.facts.now) (drivers_of (net_of c.args.graph.now) c.args.node.0)) = subst (λ ds. IsScan c.look_at_facts-scan.result false (pins_of None OfEqual (held_by c.args.facts.now) ds)) c.gate_pins.ensures.drivers c.look_at_facts-scan.ensures in
    let pull : IsEqualPull (pins_of None OfEqual (held_by c.args.facts.now) (drivers_of (net_of c.args.graph.now) c.args.node.0)) (known_on OfEqual (held_by c.args.facts.now) c.args.node.0) (Some c.in_ok-pull.pull) = subst (λ k. IsEqualPull (pins_of None OfEqual (held_by c.args.facts.now) (drivers_of (net_of c.args.graph.now) c.args.node.0)) k (Some c.in_ok-pull.pull)) c.known_of.ensures (c.in_ok-pull.ensures (pins_of None OfEqual (held_by c.args.facts.now) (drivers_of (net_of c.args.graph.now) c.args.node.0)) h) in
    pulled_placed (net_of c.args.graph.now) c.args.node.0 (IsEqualPull (pins_of None OfEqual (held_by c.args.facts.now) (drivers_of (net_of c.args.graph.now) c.args.node.0)) (known_on OfEqual (held_by c.args.facts.now) c.args.node.0)) c.in_ok-pull.pull c.find_driver.result pull c.find_driver.ensures
