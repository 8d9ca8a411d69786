use Rattle.std.proofs.Common.{arith, length, refl, ◌∙◌, ◌≡◌}
use Rattle.gate_graph.specs.Circuit.{net_of}
use Rattle.implications.proofs.Begins.{chain_short, chaining_ends, chaining_first, chaining_more, gives_none}
use Rattle.implications.proofs.Steps.{keeps_join, keeps_none, works_none}
use Rattle.implications.proofs.first_lines.give_on_chain.Goals as goal
use Rattle.implications.specs.Inner.Settled.{IsDone}
use Rattle.refutation.proofs.Public.{gate_live, walk_live}
use Rattle.refutation.specs.declared.reasoning.Line.TheVariants.{Chain}

pub loop-step-init : goal.loop-step-init
loop-step-init c =
    (chaining_first (net_of c.args.question.now.graph.now) c.args.question.now.fault c.args.facts.now c.args.log.now.lines.items c.args.log.now.trail.items (works_none (net_of c.args.question.now.graph.now) c.args.question.now.fault c.args.facts.now c.args.log.now.lines.items) (keeps_none c.args.facts.now c.args.log.now.trail.items) c.requires.free, (record { tallied = c.requires.tallied; size = refl; room = refl }, λ pending. pending))

pub returns-in_err-clash-clause-keeps : goal.returns-in_err-clash-clause-keeps
returns-in_err-clash-clause-keeps c = keeps_join c.args.facts.now c.args.log.now.trail.items c.loop-step.facts c.loop-step.log.trail.items c.give.new.facts c.give.new.log.trail.items c.loop-step.invariant.0.keeps c.give.ensures.keeps

pub returns-in-Some-clause-keeps : goal.returns-in-Some-clause-keeps
returns-in-Some-clause-keeps c = keeps_join c.args.facts.now c.args.log.now.trail.items c.loop-step.facts c.loop-step.log.trail.items c.give.new.facts c.give.new.log.trail.items c.loop-step.invariant.0.keeps c.give.ensures.keeps

pub next_in_chain-requires : goal.next_in_chain-requires
next_in_chain-requires c =
    walk_live (net_of c.args.question.now.graph.now) c.args.question.now.fault.gate.0 (length (net_of c.args.question.now.graph.now).nodes) c.loop-step.at.0 c.loop-step._step (gate_live (net_of c.args.question.now.graph.now) c.args.question.now.fault c.requires.ready.stuck) c.loop-step.invariant.0.long

pub returns-in_default-next_in_chain-clause-keeps : goal.returns-in_default-next_in_chain-clause-keeps
returns-in_default-next_in_chain-clause-keeps c = keeps_join c.args.facts.now c.args.log.now.trail.items c.loop-step.facts c.loop-step.log.trail.items c.give.new.facts c.give.new.log.trail.items c.loop-step.invariant.0.keeps c.give.ensures.keeps

pub returns-in_default-next_in_chain-clause-gives : goal.returns-in_default-next_in_chain-clause-gives
returns-in_default-next_in_chain-clause-gives c =
    let given = gives_none c.give.new.facts (IsDone (net_of c.args.question.now.graph.now) c.args.question.now.fault c.give.new.facts (Chain c.loop-step.at)) c.in_ok-clash.field-0 c.in_default.is c.in_ok-clash.ensures.gives in (
      given.0,
      chaining_ends (net_of c.args.question.now.graph.now) c.args.question.now.fault c.args.facts.now c.args.log.now.lines.items c.args.log.now.trail.items c.loop-step.facts c.loop-step.log.lines.items c.loop-step.log.trail.items c.loop-step.at c.loop-step._step (gate_live (net_of c.args.question.now.graph.now) c.args.question.now.fault c.requires.ready.stuck) c.loop-step.invariant.0
          c.give.new.facts c.give.new.log.lines.items c.give.new.log.trail.items c.in_ok-clash.ensures.works c.give.ensures.keeps given.0 given.1 c.in_default-next_in_chain.ensures,
    )

pub loop-step-preserved : goal.loop-step-preserved
loop-step-preserved c =
    let given = gives_none c.give.new.facts (IsDone (net_of c.args.question.now.graph.now) c.args.question.now.fault c.give.new.facts (Chain c.loop-step.at)) c.in_ok-clash.field-0 c.in_default.is c.in_ok-clash.ensures.gives in (
      chaining_more (net_of c.args.question.now.graph.now) c.args.question.now.fault c.args.facts.now c.args.log.now.lines.items c.args.log.now.trail.items c.loop-step.facts c.loop-step.log.lines.items c.loop-step.log.trail.items c.loop-step.at c.loop-step._step (gate_live (net_of c.args.question.now.graph.now) c.args.question.now.fault c.requires.ready.stuck) c.loop-step.invariant.0
          c.give.new.facts c.give.new.log.lines.items c.give.new.log.trail.items c.in_ok-clash.ensures.works c.give.ensures.keeps given.0 given.1 c.in-Some-next_in_chain.next.0 c.in-Some-next_in_chain.ensures,
      (record { tallied = c.in_ok-clash.ensures.tallied; size = c.give.ensures.size ∙ c.loop-step.invariant.1.0.size; room = c.give.ensures.room ∙ c.loop-step.invariant.1.0.room }, λ pending. c.in_ok-clash.ensures.pending (c.loop-step.invariant.1.1 pending)),
    )

pub unreachable-requires : goal.unreachable-requires
unreachable-requires c =
    let e : c.loop-step._step ≡ length (net_of c.args.question.now.graph.now).nodes = omega (arith, c.loop-step-test.false, c.loop-step.auto._step-end, c.node_bound-step-end.ensures) in
    chain_short (net_of c.args.question.now.graph.now) c.args.question.now.fault c.args.facts.now c.args.log.now.lines.items c.args.log.now.trail.items c.loop-step.facts c.loop-step.log.lines.items c.loop-step.log.trail.items c.loop-step.at.0 c.requires.ready.formed.acyclic
    (gate_live (net_of c.args.question.now.graph.now) c.args.question.now.fault c.requires.ready.stuck) (rw e at c.loop-step.invariant.0)
