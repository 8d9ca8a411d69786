use Rattle.std.proofs.Common.{false, refl, true}
use Rattle.gate_graph.specs.Circuit.{net_of}
use Rattle.gate_net.specs.Net.{drivers_of}
use Rattle.rm_base.proofs.Public.{stands_below}
use Rattle.care_opt.proofs.Refuted.{tree_of}
use Rattle.care_opt.proofs.refuting.refuted_pin.Goals as goal

pub invariant_of-question : goal.invariant_of-question
invariant_of-question c = record { pin = stands_below (drivers_of (net_of c.args.graph.now) c.args.gate.0) c.args.position c.requires.pin }

pub invariant_of-question-2 : goal.invariant_of-question-2
invariant_of-question-2 c = record { pin = stands_below (drivers_of (net_of c.args.graph.now) c.args.gate.0) c.args.position c.requires.pin }

pub returns-then-at_zero-clause-found : goal.returns-then-at_zero-clause-found
returns-then-at_zero-clause-found c =
    (refl, (stands_below (drivers_of (net_of c.args.graph.now) c.args.gate.0) c.args.position c.requires.pin, tree_of (net_of c.args.graph.now) (record { gate = c.args.gate; position = c.args.position; value = false }) c.args.depth c.in_ok-at_zero.at_zero c.if-at_zero.true c.in_ok-at_zero.ensures.looked))

pub returns-then-at_one-clause-found : goal.returns-then-at_one-clause-found
returns-then-at_one-clause-found c =
    (refl, (stands_below (drivers_of (net_of c.args.graph.now) c.args.gate.0) c.args.position c.requires.pin, tree_of (net_of c.args.graph.now) (record { gate = c.args.gate; position = c.args.position; value = true }) c.args.depth c.in_ok-at_one.at_one c.if-at_one.true c.in_ok-at_one.ensures.looked))
