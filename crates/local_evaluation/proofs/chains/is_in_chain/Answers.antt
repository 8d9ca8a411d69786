use Rattle.std.proofs.Common.{◌≤◌, length, refl, arith}
use Rattle.gate_graph.specs.Circuit.{net_of}
use Rattle.local_evaluation.proofs.Walks.{walk_starts, walk_live, walk_found, walk_ends, walk_goes_on, walk_short}
use Rattle.local_evaluation.proofs.chains.is_in_chain.Goals as goal

pub loop-step-init : goal.loop-step-init
loop-step-init c = walk_starts (net_of c.args.graph.now) c.args.gate.0 c.args.node.0

pub returns-then-at-node : goal.returns-then-at-node
returns-then-at-node c = (λ _. walk_found (net_of c.args.graph.now) c.args.gate.0 c.args.node.0 c.loop-step.at.0 c.loop-step._step c.loop-step.invariant c.if-at-node.true, λ _. refl)

pub next_in_chain-requires : goal.next_in_chain-requires
next_in_chain-requires c = walk_live (net_of c.args.graph.now) c.args.gate.0 c.args.node.0 c.loop-step.at.0 c.loop-step._step c.requires c.loop-step.invariant

pub returns-in_default : goal.returns-in_default
returns-in_default c = (λ e. cc, λ chain. absurd (walk_ends (net_of c.args.graph.now) c.args.gate.0 c.args.node.0 c.loop-step.at.0 c.loop-step._step c.loop-step.invariant c.if-at-node.false c.in_default.ensures chain))

pub loop-step-preserved : goal.loop-step-preserved
loop-step-preserved c = walk_goes_on (net_of c.args.graph.now) c.args.gate.0 c.args.node.0 c.loop-step.at.0 c.loop-step._step c.in-Some.next.0 c.loop-step.invariant c.if-at-node.false c.in-Some.ensures

pub unreachable-requires : goal.unreachable-requires
unreachable-requires c =
    let long : length (net_of c.args.graph.now).nodes ≤ c.loop-step._step = omega (arith, c.loop-step-test.false, c.loop-step.auto._step-end, c.node_bound-bound.ensures) in
    walk_short (net_of c.args.graph.now) c.args.gate.0 c.args.node.0 c.loop-step.at.0 c.loop-step._step c.well_formed-2.ensures.net.acyclic c.requires long c.loop-step.invariant
