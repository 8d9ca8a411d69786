use Rattle.std.proofs.Common.{arith, ◌+◌}
use Rattle.gate_graph.specs.Circuit.{net_of}
use Rattle.rm_base.proofs.Public.{on_err}
use Rattle.optimisation.proofs.RoundLaws.{stopped_then}
use Rattle.optimisation.proofs.TurnLaws.{turns_first, turns_next, turns_within}
use Rattle.optimisation.proofs.turns.go_turns.Goals as goal

pub loop-turn-init : goal.loop-turn-init
loop-turn-init g c = record {
  turned = turns_first (net_of c.args.graph) c.args.settings.now c.in_ok-rounds.rounds (g.S.Shelf.files c.args.shelf.now) (g.S.Shelf.files c.go_stages.new.shelf) c.args.journal.now c.in_ok-rounds.ensures.staged;
  allowed = c.in_ok-rounds.ensures.allowed;
  grown = c.in_ok-rounds.ensures.grown;
  there = c.in_ok-rounds.ensures.there;
  later = c.in_ok-rounds.ensures.later;
}

pub returns-in_err-more-clause-stopped : goal.returns-in_err-more-clause-stopped
returns-in_err-more-clause-stopped g c =
    let t = c.loop-turn.invariant.turned in
    on_err c.from_residual-in_err-more.result
    (stopped_then c.runs_join.ensures c.texts_append.ensures (net_of c.args.graph) (net_of c.loop-turn.rounds.last.graph) t.records (g.S.Shelf.files c.args.shelf.now) (g.S.Shelf.files c.loop-turn.shelf) (g.S.Shelf.files c.turn_once.new.shelf) c.args.journal.now
    t.run.accepted t.written c.in_err-more.ensures.stopped)

pub returns-then-not-changed-clause-turned : goal.returns-then-not-changed-clause-turned
returns-then-not-changed-clause-turned g c =
    turns_within (net_of c.args.graph) c.args.settings.now (c.loop-turn.turn + 1) c.args.settings.now.perturb c.in_ok-more.more (g.S.Shelf.files c.args.shelf.now) (g.S.Shelf.files c.turn_once.new.shelf) c.args.journal.now
    (omega (arith, c.loop-turn-test.true))
    (turns_next c.runs_join.ensures c.texts_append.ensures (net_of c.args.graph) c.args.settings.now c.loop-turn.turn c.loop-turn.rounds c.in_ok-more.more c.in_ok-more.changed
    (g.S.Shelf.files c.args.shelf.now) (g.S.Shelf.files c.loop-turn.shelf) (g.S.Shelf.files c.turn_once.new.shelf) c.args.journal.now
    c.if-not-rounds.false c.loop-turn.invariant.turned c.in_ok-more.ensures.turned)

pub loop-turn-preserved : goal.loop-turn-preserved
loop-turn-preserved g c = record {
  turned = turns_next c.runs_join.ensures c.texts_append.ensures (net_of c.args.graph) c.args.settings.now c.loop-turn.turn c.loop-turn.rounds c.in_ok-more.more c.in_ok-more.changed
      (g.S.Shelf.files c.args.shelf.now) (g.S.Shelf.files c.loop-turn.shelf) (g.S.Shelf.files c.turn_once.new.shelf) c.args.journal.now
      c.if-not-rounds.false c.loop-turn.invariant.turned c.in_ok-more.ensures.turned;
  allowed = c.in_ok-more.ensures.allowed;
  grown = omega (arith, c.loop-turn.invariant.grown, c.turn_once.ensures.grown);
  there = c.in_ok-more.ensures.there;
  later = omega (arith, c.loop-turn.invariant.later, c.in_ok-more.ensures.later);
}
