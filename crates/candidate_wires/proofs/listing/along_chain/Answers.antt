use Rattle.std.proofs.Common.{ap, arith, false, length, length-set, ◌∙◌, ◌<◌, ◌≡◌, refl}
use Rattle.gate_graph.specs.Circuit.{net_of}
use Rattle.refutation.proofs.Public.{kind_live, reader_live}
use Rattle.candidate_wires.proofs.Walking.{walked_ends, walked_first, walked_live, walked_more, walked_short}
use Rattle.candidate_wires.proofs.listing.along_chain.Goals as goal

pub loop-step-init : goal.loop-step-init
loop-step-init c = record { walked = rw c.new-found.ensures.items (walked_first (net_of c.args.question.now.graph.now) c.args.question.now.fault.gate.0 c.args.reached.now c.args.sources.now c.requires.reached); marks = refl; room = refl }

pub next_in_chain-requires : goal.next_in_chain-requires
next_in_chain-requires c = walked_live (net_of c.args.question.now.graph.now) c.args.question.now.fault.gate.0 c.loop-step.at.0 c.loop-step._step c.loop-step.reached c.args.sources.now c.loop-step.found.items c.well_formed-2.ensures.net.acyclic c.requires.gate c.loop-step.invariant.walked

pub returns-in_default-clause-found : goal.returns-in_default-clause-found
returns-in_default-clause-found c =
    let more = c.in_ok-add_at.ensures.more in
    rw more.added
    (walked_ends (net_of c.args.question.now.graph.now) c.args.question.now.fault.gate.0 c.loop-step.at.0 c.loop-step._step c.loop-step.reached c.args.sources.now c.loop-step.found.items c.well_formed-2.ensures.net.acyclic c.requires.gate c.loop-step.invariant.walked more.more more.among c.args.question.now.fault refl c.in_default.ensures)

pub unset-requires : goal.unset-requires
unset-requires c =
    let live = reader_live (net_of c.args.question.now.graph.now) c.in-Some.next.0 c.in-Some.ensures.only.reads.0 c.loop-step.at.0 c.in-Some.ensures.only.reads.1 in
    let below : c.in-Some.next.0 < length (net_of c.args.question.now.graph.now).nodes = kind_live (net_of c.args.question.now.graph.now) c.in-Some.next.0 live in
    omega (arith, below, c.requires.marks, c.loop-step.invariant.marks)

pub loop-step-preserved : goal.loop-step-preserved
loop-step-preserved c =
    let more = c.in_ok-add_at.ensures.more in
    record {
      walked = rw (c.unset.ensures, more.added)
          (walked_more (net_of c.args.question.now.graph.now) c.args.question.now.fault.gate.0 c.loop-step.at.0 c.loop-step._step c.loop-step.reached c.args.sources.now c.loop-step.found.items c.well_formed-2.ensures.net.acyclic c.requires.gate c.loop-step.invariant.walked more.more more.among c.in-Some.next.0 c.in-Some.ensures);
      marks = ap (λ bs. length bs) c.unset.ensures ∙ length-set c.loop-step.reached c.in-Some.next.0 false ∙ c.loop-step.invariant.marks;
      room = c.in_ok-add_at.ensures.room ∙ c.loop-step.invariant.room;
    }

pub unreachable-requires : goal.unreachable-requires
unreachable-requires c =
    let all : c.loop-step._step ≡ length (net_of c.args.question.now.graph.now).nodes = omega (arith, c.loop-step-test.false, c.loop-step.auto._step-end, c.node_bound-step-end.ensures) in
    walked_short (net_of c.args.question.now.graph.now) c.args.question.now.fault.gate.0 c.loop-step.at.0 c.loop-step._step c.loop-step.reached c.args.sources.now c.loop-step.found.items c.well_formed-2.ensures.net.acyclic c.requires.gate c.loop-step.invariant.walked all
