use Rattle.std.proofs.Common.{arith}
use Rattle.gate_graph.specs.Circuit.{net_of}
use Rattle.rm_base.proofs.Public.{on_err}
use Rattle.optimisation.proofs.RoundLaws.{stopped_then}
use Rattle.optimisation.proofs.StageLaws.{further_staged}
use Rattle.optimisation.proofs.stages.go_stages.Goals as goal

pub further_stage-requires-clause-few : goal.further_stage-requires-clause-few
further_stage-requires-clause-few g c = omega (arith, c.in_ok-rounds.ensures.staged.run.within)

pub further_stage-requires-clause-wires : goal.further_stage-requires-clause-wires
further_stage-requires-clause-wires g c = omega (arith, c.in_ok-rounds.ensures.staged.run.fewer, c.requires.wires)

pub further_stage-requires-clause-tries : goal.further_stage-requires-clause-tries
further_stage-requires-clause-tries g c = omega (arith, c.in_ok-rounds.ensures.staged.run.run.within)

pub returns-in_err-more-clause-stopped : goal.returns-in_err-more-clause-stopped
returns-in_err-more-clause-stopped g c =
    let s = c.in_ok-rounds.ensures.staged in
    on_err c.from_residual-in_err-more.result
    (stopped_then c.runs_join.ensures c.texts_append.ensures (net_of c.args.graph) (net_of c.in_ok-rounds.rounds.last.graph) s.records (g.S.Shelf.files c.args.shelf.now) (g.S.Shelf.files c.first_stage.new.shelf) (g.S.Shelf.files c.further_stage.new.shelf) c.args.journal.now
    s.run.accepted s.written c.in_err-more.ensures.stopped)

pub returns-clause-staged : goal.returns-clause-staged
returns-clause-staged g c =
    further_staged c.runs_join.ensures c.texts_append.ensures (net_of c.args.graph) c.args.settings.now c.in_ok-rounds.rounds c.in_ok-more.more
    (g.S.Shelf.files c.args.shelf.now) (g.S.Shelf.files c.first_stage.new.shelf) (g.S.Shelf.files c.further_stage.new.shelf) c.args.journal.now
    (c.merges_again.ensures c.if-not-merges_again.false)
    c.in_ok-rounds.ensures.staged c.in_ok-more.ensures.went
