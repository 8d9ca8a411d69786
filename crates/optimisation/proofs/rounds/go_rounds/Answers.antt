use Rattle.std.proofs.Common.{refl, arith}
use Rattle.gate_graph.specs.Circuit.{net_of}
use Rattle.optimisation.proofs.AllowedLaws.{allowed_on, allowed_still}
use Rattle.optimisation.proofs.RoundLaws.{closed_stopped, further_run, nothing_closed, stopped_then, went_within}
use Rattle.optimisation.proofs.rounds.go_rounds.Goals as goal
use Rattle.rm_base.proofs.Public.{on_err}

pub returns-in_err-closed-clause-stopped : goal.returns-in_err-closed-clause-stopped
returns-in_err-closed-clause-stopped g c =
    let inv = c.loop-closed.invariant.recorded in
    on_err c.from_residual-in_err-closed.result (stopped_then c.runs_join.ensures c.texts_append.ensures (net_of c.args.graph) (net_of c.loop-closed.round.graph) inv.records (g.S.Shelf.files c.args.shelf.now) (g.S.Shelf.files c.loop-closed.shelf) (g.S.Shelf.files c.close_faults.new.shelf) c.args.journal.now inv.run.accepted inv.written c.in_err-closed.ensures.stopped)

pub returns-then-report-eq0-clause-ended : goal.returns-then-report-eq0-clause-ended
returns-then-report-eq0-clause-ended g c = record {
  recorded = nothing_closed c.texts_append.ensures (net_of c.args.graph) c.args.settings.now c.loop-closed.round
      (record { graph = c.in_ok-closed.closed; made = c.loop-closed.round.made; tries = c.loop-closed.round.tries; limit = c.loop-closed.round.limit; settled = c.loop-closed.round.settled; start = c.loop-closed.round.start }) c.in_ok-closed.report
      (g.S.Shelf.files c.args.shelf.now) (g.S.Shelf.files c.loop-closed.shelf) (g.S.Shelf.files c.close_faults.new.shelf) c.args.journal.now
      c.loop-closed.invariant.recorded c.in_ok-closed.ensures.closed c.if-report-eq0.true c.in_ok-closed.ensures.no_fuller refl refl refl refl refl;
  closed = c.in_ok-closed.ensures.verdicts;
}

pub returns-in_err-round-2-clause-stopped : goal.returns-in_err-round-2-clause-stopped
returns-in_err-round-2-clause-stopped g c =
    on_err c.from_residual-in_err-round-2.result (closed_stopped c.runs_join.ensures c.texts_append.ensures (net_of c.args.graph) c.args.settings.now c.loop-closed.round c.in_ok-closed.closed c.in_ok-closed.report (g.S.Shelf.files c.args.shelf.now) (g.S.Shelf.files c.loop-closed.shelf) (g.S.Shelf.files c.close_faults.new.shelf) (g.S.Shelf.files c.further_round.new.shelf) c.args.journal.now
    c.loop-closed.invariant.recorded c.in_ok-closed.ensures.closed c.in_err-round-2.ensures.stopped)

pub loop-closed-preserved : goal.loop-closed-preserved
loop-closed-preserved g c = record {
  recorded = further_run c.run_goes_on.ensures c.runs_join.ensures c.texts_append.ensures (net_of c.args.graph) c.args.settings.now c.loop-closed.round c.in_ok-closed.closed c.in_ok-closed.report c.in_ok-round-2.round
      (g.S.Shelf.files c.args.shelf.now) (g.S.Shelf.files c.loop-closed.shelf) (g.S.Shelf.files c.close_faults.new.shelf) (g.S.Shelf.files c.further_round.new.shelf) c.args.journal.now
      c.requires.wires c.loop-closed.invariant.recorded c.in_ok-closed.ensures.closed (omega (arith, c.if-report-eq0.false)) (omega (arith, c.in_ok-closed.ensures.local)) c.in_ok-closed.ensures.no_fuller c.in_ok-round-2.ensures.went;
  tries = went_within c.loop-closed.round.tries c.loop-closed.round.limit c.in_ok-round-2.round.tries c.in_ok-round-2.round.limit c.in_ok-round-2.ensures.went.outcome c.in_ok-round-2.ensures.went.tries_are c.in_ok-round-2.ensures.went.limit_is c.in_ok-round-2.ensures.went.some;
  allowed = allowed_on c.args.settings.now c.loop-closed.round.limit c.in_ok-round-2.round.limit c.loop-closed.work c.further_round.new.work c.loop-closed.invariant.allowed c.in_ok-round-2.ensures.within c.in_ok-round-2.ensures.cut_short
      (omega (arith, c.close_faults.ensures.grown, c.further_round.ensures.grown));
  grown = omega (arith, c.loop-closed.invariant.grown, c.close_faults.ensures.grown, c.further_round.ensures.grown);
  there = c.in_ok-round-2.ensures.there;
  later = omega (arith, c.loop-closed.invariant.later, c.in_ok-closed.ensures.later, c.in_ok-round-2.ensures.later);
}

pub returns-then-report-eq0-clause-allowed : goal.returns-then-report-eq0-clause-allowed
returns-then-report-eq0-clause-allowed g c =
    allowed_still c.args.settings.now c.loop-closed.round.limit c.loop-closed.work c.close_faults.new.work c.loop-closed.invariant.allowed c.close_faults.ensures.grown

pub loop-closed-init : goal.loop-closed-init
loop-closed-init g c = record {
  recorded = c.in_ok-round.ensures.ran;
  tries = c.in_ok-round.ensures.ran.run.run.within;
  allowed = c.in_ok-round.ensures.allowed;
  grown = c.in_ok-round.ensures.grown;
  there = c.in_ok-round.ensures.there;
  later = c.in_ok-round.ensures.later;
}

pub further_round-requires-clause-limit : goal.further_round-requires-clause-limit
further_round-requires-clause-limit g c = omega (arith, c.loop-closed.invariant.allowed.within)
