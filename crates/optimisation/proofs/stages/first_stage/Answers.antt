use Rattle.std.proofs.Common.{arith, subst, ℕ}
use Rattle.std.proofs.lemmas.Result.{IfOk-weaker}
use Rattle.gate_graph.specs.Circuit.{net_of}
use Rattle.rm_base.proofs.Public.{on_err}
use Rattle.optimisation.specs.Allowed.{IsAllowed}
use Rattle.optimisation.specs.Inner.Ended.{HasEnded}
use Rattle.optimisation.specs.Inner.Staged.{HasStages}
use Rattle.optimisation.proofs.RoundLaws.{stopped_then}
use Rattle.optimisation.proofs.StageLaws.{merged_staged, rounds_staged}
use Rattle.optimisation.proofs.stages.first_stage.Goals as goal

pub returns-then-not-merges_first-clause-staged : goal.returns-then-not-merges_first-clause-staged
returns-then-not-merges_first-clause-staged g c =
    IfOk-weaker c.go_rounds.result
    (λ r. HasEnded (net_of c.args.graph) c.args.settings.now r (g.S.Shelf.files c.args.shelf.now) (g.S.Shelf.files c.go_rounds.new.shelf) c.args.journal.now)
    (λ r. HasStages (net_of c.args.graph) c.args.settings.now r (g.S.Shelf.files c.args.shelf.now) (g.S.Shelf.files c.go_rounds.new.shelf) c.args.journal.now)
    (λ r h. rounds_staged (net_of c.args.graph) c.args.settings.now r (g.S.Shelf.files c.args.shelf.now) (g.S.Shelf.files c.go_rounds.new.shelf) c.args.journal.now h)
    c.go_rounds.ensures.ended

pub returns-in_err-rounds-clause-stopped : goal.returns-in_err-rounds-clause-stopped
returns-in_err-rounds-clause-stopped g c =
    let m = c.in_ok-merged.ensures.merged in
    on_err c.from_residual-in_err-rounds.result
    (stopped_then c.runs_join.ensures c.texts_append.ensures (net_of c.args.graph) (net_of c.in_ok-merged.merged.graph) m.records (g.S.Shelf.files c.args.shelf.now) (g.S.Shelf.files c.sweep_and_merge.new.shelf) (g.S.Shelf.files c.go_rounds-2.new.shelf) c.args.journal.now
    m.accepted m.written c.in_err-rounds.ensures.stopped)

pub returns-clause-staged : goal.returns-clause-staged
returns-clause-staged g c =
    let t = c.counted_on.ensures.tries in
    let l = c.counted_on.ensures.limit in
    merged_staged c.runs_join.ensures c.texts_append.ensures (net_of c.args.graph) c.in_ok-merged.merged.graph c.args.settings.now c.in_ok-merged.merged.made c.in_ok-merged.merged.changed c.in_ok-rounds.rounds c.counted_on.result
    (g.S.Shelf.files c.args.shelf.now) (g.S.Shelf.files c.sweep_and_merge.new.shelf) (g.S.Shelf.files c.go_rounds-2.new.shelf) c.args.journal.now
    (c.merges_first.ensures c.if-not-merges_first.false)
    c.in_ok-merged.ensures.merged c.in_ok-rounds.ensures.ended c.counted_on.ensures.graph c.counted_on.ensures.made (omega (arith, t)) (omega (arith, l)) c.counted_on.ensures.settled c.counted_on.ensures.report

pub returns-clause-allowed : goal.returns-clause-allowed
returns-clause-allowed g c =
    let l = c.counted_on.ensures.limit in
    subst (λ (k : ℕ). IsAllowed c.args.settings.now k c.go_rounds-2.new.work) (omega (arith, l)) c.in_ok-rounds.ensures.allowed
