use Rattle.std.proofs.Common.{None, Some, subst}
use Rattle.gate_graph.specs.Circuit.{net_of}
use Rattle.gate_net.specs.Net.{drivers_of}
use Rattle.implications.proofs.GateLines.{pulled_placed, some_pin}
use Rattle.implications.proofs.gate_lines.pull_value.Goals as goal
use Rattle.implications.specs.Inner.Pulls.{IsPull}
use Rattle.refutation.specs.FactSets.{held_by}
use Rattle.refutation.proofs.Public.{pins_length}
use Rattle.refutation.specs.Pins.{IsScan, known_on, pins_of}

pub returns-in_err-pull : goal.returns-in_err-pull
returns-in_err-pull c =
    let h : IsScan c.look_at_facts-scan.result c.args.c (pins_of c.args.stuck c.args.aspect (held_by c.args.facts.now) (drivers_of (net_of c.args.graph.now) c.args.node.0)) = subst (λ ds. IsScan c.look_at_facts-scan.result c.args.c (pins_of c.args.stuck c.args.aspect (held_by c.args.facts.now) ds)) c.gate_pins.ensures.drivers c.look_at_facts-scan.ensures in
    rw (c.from_residual.ensures) (subst (λ k. IsPull c.args.c (pins_of c.args.stuck c.args.aspect (held_by c.args.facts.now) (drivers_of (net_of c.args.graph.now) c.args.node.0)) k None) c.known_of.ensures (c.in_err-pull.ensures (pins_of c.args.stuck c.args.aspect (held_by c.args.facts.now) (drivers_of (net_of c.args.graph.now) c.args.node.0)) h))

pub find_driver-requires : goal.find_driver-requires
find_driver-requires c =
    let h : IsScan c.look_at_facts-scan.result c.args.c (pins_of c.args.stuck c.args.aspect (held_by c.args.facts.now) (drivers_of (net_of c.args.graph.now) c.args.node.0)) = subst (λ ds. IsScan c.look_at_facts-scan.result c.args.c (pins_of c.args.stuck c.args.aspect (held_by c.args.facts.now) ds)) c.gate_pins.ensures.drivers c.look_at_facts-scan.ensures in
    let pull : IsPull c.args.c (pins_of c.args.stuck c.args.aspect (held_by c.args.facts.now) (drivers_of (net_of c.args.graph.now) c.args.node.0)) (known_on c.args.aspect (held_by c.args.facts.now) c.args.node.0) (Some c.in_ok-pull.pull) = subst (λ k. IsPull c.args.c (pins_of c.args.stuck c.args.aspect (held_by c.args.facts.now) (drivers_of (net_of c.args.graph.now) c.args.node.0)) k (Some c.in_ok-pull.pull)) c.known_of.ensures (c.in_ok-pull.ensures (pins_of c.args.stuck c.args.aspect (held_by c.args.facts.now) (drivers_of (net_of c.args.graph.now) c.args.node.0)) h) in
    some_pin c.args.c (pins_of c.args.stuck c.args.aspect (held_by c.args.facts.now) (drivers_of (net_of c.args.graph.now) c.args.node.0)) (known_on c.args.aspect (held_by c.args.facts.now) c.args.node.0) (drivers_of (net_of c.args.graph.now) c.args.node.0) c.in_ok-pull.pull pull (pins_length c.args.stuck (known_on c.args.aspect (held_by c.args.facts.now)) (drivers_of (net_of c.args.graph.now) c.args.node.0)) c.gate_pins.ensures.few

pub returns : goal.returns
returns c =
    let h : IsScan c.look_at_facts-scan.result c.args.c (pins_of c.args.stuck c.args.aspect (held_by c.args.facts.now) (drivers_of (net_of c.args.graph.now) c.args.node.0)) = subst (λ ds. IsScan c.look_at_facts-scan.result c.args.c (pins_of c.args.stuck c.args.aspect (held_by c.args.facts.now) ds)) c.gate_pins.ensures.drivers c.look_at_facts-scan.ensures in
    let pull : IsPull c.args.c (pins_of c.args.stuck c.args.aspect (held_by c.args.facts.now) (drivers_of (net_of c.args.graph.now) c.args.node.0)) (known_on c.args.aspect (held_by c.args.facts.now) c.args.node.0) (Some c.in_ok-pull.pull) = subst (λ k. IsPull c.args.c (pins_of c.args.stuck c.args.aspect (held_by c.args.facts.now) (drivers_of (net_of c.args.graph.now) c.args.node.0)) k (Some c.in_ok-pull.pull)) c.known_of.ensures (c.in_ok-pull.ensures (pins_of c.args.stuck c.args.aspect (held_by c.args.facts.now) (drivers_of (net_of c.args.graph.now) c.args.node.0)) h) in
    pulled_placed (net_of c.args.graph.now) c.args.node.0 (IsPull c.args.c (pins_of c.args.stuck c.args.aspect (held_by c.args.facts.now) (drivers_of (net_of c.args.graph.now) c.args.node.0)) (known_on c.args.aspect (held_by c.args.facts.now) c.args.node.0)) c.in_ok-pull.pull c.find_driver.result pull c.find_driver.ensures
