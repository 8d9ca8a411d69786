use Rattle.std.proofs.Common.{arith, length, ◌<◌, ◌≤◌}
use Rattle.gate_graph.specs.Circuit.{net_of}
use Rattle.refutation.specs.FactSets.{held_by}
use Rattle.candidate_wires.proofs.InOrder.{known_on}
use Rattle.candidate_wires.proofs.KnownNodes.{known_more, known_none}
use Rattle.candidate_wires.proofs.known.look_on.Goals as goal

pub returns-in_default-clause-known : goal.returns-in_default-clause-known
returns-in_default-clause-known c known none =
    let le : c.args.next.now ≤ c.args.number = omega (arith, c.if-number-next.false) in
    let lt : c.args.number < length (net_of c.args.graph.now).nodes = omega (arith, c.if-number-bound.false, c.requires.bound) in
    known_none (net_of c.args.graph.now) (held_by c.args.facts.now) c.args.number c.args.nodes.now.items (known_on (net_of c.args.graph.now) (held_by c.args.facts.now) c.args.next.now c.args.number c.args.nodes.now.items known le (none lt)) c.in_default.ensures

pub returns-clause-known : goal.returns-clause-known
returns-clause-known c known none =
    let le : c.args.next.now ≤ c.args.number = omega (arith, c.if-number-next.false) in
    let lt : c.args.number < length (net_of c.args.graph.now).nodes = omega (arith, c.if-number-bound.false, c.requires.bound) in
    rw c.in_ok-push.ensures.items
    (known_more (net_of c.args.graph.now) (held_by c.args.facts.now) c.args.number c.args.nodes.now.items c.in-Some.found (known_on (net_of c.args.graph.now) (held_by c.args.facts.now) c.args.next.now c.args.number c.args.nodes.now.items known le (none lt)) c.in-Some.ensures.0 c.in-Some.ensures.1)
