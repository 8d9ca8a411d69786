use Rattle.std.proofs.Common.{arith}
use Rattle.gate_graph.specs.Circuit.{net_of}
use Rattle.optimisation.proofs.AllowedLaws.{allowed_first, allowed_on}
use Rattle.optimisation.proofs.RoundLaws.{first_run, removed_stopped, stopped_then}
use Rattle.optimisation.proofs.rounds.first_round.Goals as goal
use Rattle.rm_base.proofs.Public.{on_err}

pub returns-clause-ran : goal.returns-clause-ran
returns-clause-ran g c =
    first_run c.run_begins.ensures c.runs_join.ensures c.texts_append.ensures c.args.graph c.in_ok-swept.swept c.in_ok-closed.closed c.args.settings.now c.sweep_depth.result c.in_ok-closed.report c.in_ok-swept.made c.in_ok-round.round
    (g.S.Shelf.files c.args.shelf.now) (g.S.Shelf.files c.remove_redundant.new.shelf) (g.S.Shelf.files c.close_before_tries.new.shelf) (g.S.Shelf.files c.further_round.new.shelf) c.args.journal.now
    c.requires.few c.requires.wires c.in_ok-swept.ensures.removed c.in_ok-swept.ensures.within c.in_ok-closed.ensures.closed (omega (arith, c.in_ok-closed.ensures.local)) c.in_ok-closed.ensures.no_fuller c.in_ok-round.ensures.went

pub returns-in_err-closed-clause-stopped : goal.returns-in_err-closed-clause-stopped
returns-in_err-closed-clause-stopped g c =
    let r = c.in_ok-swept.ensures.removed in
    on_err c.from_residual-in_err-closed.result (stopped_then c.runs_join.ensures c.texts_append.ensures (net_of c.args.graph) (net_of c.in_ok-swept.swept) r.records (g.S.Shelf.files c.args.shelf.now) (g.S.Shelf.files c.remove_redundant.new.shelf) (g.S.Shelf.files c.close_before_tries.new.shelf) c.args.journal.now r.accepted r.written c.in_err-closed.ensures.stopped)

pub returns-in_err-round-clause-stopped : goal.returns-in_err-round-clause-stopped
returns-in_err-round-clause-stopped g c =
    on_err c.from_residual-in_err-round.result (removed_stopped c.runs_join.ensures c.texts_append.ensures (net_of c.args.graph) (net_of c.in_ok-swept.swept) (net_of c.in_ok-closed.closed) c.sweep_depth.result c.in_ok-swept.made c.in_ok-closed.report
    (g.S.Shelf.files c.args.shelf.now) (g.S.Shelf.files c.remove_redundant.new.shelf) (g.S.Shelf.files c.close_before_tries.new.shelf) (g.S.Shelf.files c.further_round.new.shelf) c.args.journal.now
    c.in_ok-swept.ensures.removed c.in_ok-closed.ensures.closed c.in_err-round.ensures.stopped)

pub close_before_tries-requires-clause-few : goal.close_before_tries-requires-clause-few
close_before_tries-requires-clause-few g c = omega (arith, c.in_ok-swept.ensures.within.size, c.requires.few)

pub further_round-requires-clause-few : goal.further_round-requires-clause-few
further_round-requires-clause-few g c = omega (arith, c.in_ok-swept.ensures.within.size, c.requires.few, c.in_ok-closed.ensures.no_fuller.pins, c.in_ok-closed.ensures.no_fuller.nodes)

pub further_round-requires-clause-adds : goal.further_round-requires-clause-adds
further_round-requires-clause-adds g c = omega (arith, c.in_ok-swept.ensures.removed.few)

pub further_round-requires-clause-fixes : goal.further_round-requires-clause-fixes
further_round-requires-clause-fixes g c = omega (arith, c.in_ok-swept.ensures.removed.few)

pub further_round-requires-clause-local : goal.further_round-requires-clause-local
further_round-requires-clause-local g c = (omega (arith, c.in_ok-swept.ensures.removed.few), omega (arith, c.in_ok-closed.ensures.local))

pub returns-clause-allowed : goal.returns-clause-allowed
returns-clause-allowed g c =
    allowed_on c.args.settings.now c.args.settings.now.tries c.in_ok-round.round.limit c.args.work.now c.further_round.new.work (allowed_first c.args.settings.now c.args.work.now) c.in_ok-round.ensures.within c.in_ok-round.ensures.cut_short
    (omega (arith, c.remove_redundant.ensures.grown, c.close_before_tries.ensures.grown, c.further_round.ensures.grown))
