use Rattle.std.proofs.Common.{ap, arith, false, length, length-set, true, ◌<◌, ◌∙◌, ◌≤◌}
use Rattle.std.proofs.lemmas.List.{length-replicate}
use Rattle.gate_graph.specs.Circuit.{net_of}
use Rattle.local_evaluation.proofs.Sites.{at_below, at_live, chaining_ends, chaining_first, chaining_more}
use Rattle.local_evaluation.proofs.Walks.{walk_short}
use Rattle.local_evaluation.proofs.chains.mark_chain.Goals as goal

pub loop-step-init : goal.loop-step-init
loop-step-init c = record { chaining = chaining_first (net_of c.args.graph.now) c.args.gate.0 (length c.args.marks.now) c.clear.new.self c.clear.ensures; size = ap (λ xs. length xs) c.clear.ensures ∙ length-replicate (length c.args.marks.now) false }

pub add-requires : goal.add-requires
add-requires c =
    let below : c.loop-step.at.0 < length (net_of c.args.graph.now).nodes = at_below (net_of c.args.graph.now) c.args.gate.0 c.loop-step.marks c.loop-step.at.0 c.loop-step._step c.requires.gate c.loop-step.invariant.chaining in
    omega (arith, c.requires.room, c.loop-step.invariant.size)

pub next_in_chain-requires : goal.next_in_chain-requires
next_in_chain-requires c = at_live (net_of c.args.graph.now) c.args.gate.0 c.loop-step.marks c.loop-step.at.0 c.loop-step._step c.requires.gate c.loop-step.invariant.chaining

pub returns-in_default-clause-marked : goal.returns-in_default-clause-marked
returns-in_default-clause-marked c =
    let below : c.loop-step.at.0 < length (net_of c.args.graph.now).nodes = at_below (net_of c.args.graph.now) c.args.gate.0 c.loop-step.marks c.loop-step.at.0 c.loop-step._step c.requires.gate c.loop-step.invariant.chaining in
    rw c.add.ensures (chaining_ends (net_of c.args.graph.now) c.args.gate.0 c.loop-step.marks c.loop-step.at.0 c.loop-step._step c.requires.gate c.loop-step.invariant.chaining (omega (arith, c.requires.room, c.loop-step.invariant.size)) c.in_default.ensures)

pub loop-step-preserved : goal.loop-step-preserved
loop-step-preserved c =
    let below : c.loop-step.at.0 < length (net_of c.args.graph.now).nodes = at_below (net_of c.args.graph.now) c.args.gate.0 c.loop-step.marks c.loop-step.at.0 c.loop-step._step c.requires.gate c.loop-step.invariant.chaining in
    record {
      chaining = rw c.add.ensures (chaining_more (net_of c.args.graph.now) c.args.gate.0 c.loop-step.marks c.loop-step.at.0 c.loop-step._step c.requires.gate c.loop-step.invariant.chaining (omega (arith, c.requires.room, c.loop-step.invariant.size)) c.in-Some.next.0 c.in-Some.ensures);
      size = rw c.add.ensures (length-set c.loop-step.marks c.loop-step.at.0 true) ∙ c.loop-step.invariant.size;
    }

pub unreachable-requires : goal.unreachable-requires
unreachable-requires c =
    let long : length (net_of c.args.graph.now).nodes ≤ c.loop-step._step = omega (arith, c.requires.room, c.loop-step-test.false, c.loop-step.auto._step-end, c.len-bound.ensures) in
    walk_short (net_of c.args.graph.now) c.args.gate.0 (length (net_of c.args.graph.now).nodes) c.loop-step.at.0 c.loop-step._step c.well_formed-2.ensures.net.acyclic c.requires.gate long c.loop-step.invariant.chaining.long
