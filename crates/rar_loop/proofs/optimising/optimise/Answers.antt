use Rattle.std.proofs.Common.{◌≤◌, ℕ, List, sym, subst, arith}
use Rattle.std.proofs.Math.Nat.{le-max_right}
use Rattle.gate_graph.specs.Circuit.{net_of}
use Rattle.journal_text.specs.declared.record.Record.{Record}
use Rattle.rar_loop.specs.Ended.{allowed_to}
use Rattle.rar_loop.specs.Inner.Improving.{HasBegun, IsThrough}
use Rattle.rar_loop.proofs.Looping.{err_ok, if_err}
use Rattle.rar_loop.proofs.Streaming.{cut_on, stopped_none, through_same}
use Rattle.rar_loop.proofs.optimising.optimise.Goals as goal

pub improve_swept-requires-clause-begun : goal.improve_swept-requires-clause-begun
improve_swept-requires-clause-begun g c =
    (c.args.graph, (omega (arith, c.requires.few, c.well_formed-2.ensures.held), (subst (λ (rs : List Record). HasBegun c.args.graph c.args.settings.now.depth c.in_ok-space.space.trial.graph rs) (sym c.deref.ensures.value) c.in_ok-space.ensures.begun)))

pub returns-clause-optimised : goal.returns-clause-optimised
returns-clause-optimised g c =
    let t : IsThrough c.args.graph c.args.start.now c.improve_swept.new.start c.args.settings.now.depth (allowed_to c.args.settings.now.tries c.in_ok-outcome.outcome) c.into_graph.result c.in_ok-outcome.outcome c.in_ok-outcome.made (g.S.Shelf.files c.args.shelf.now) (g.S.Shelf.files c.improve_swept.new.shelf) c.args.journal.now = through_same c.args.graph c.improve_swept.new.space.trial.graph c.into_graph.result c.args.start.now c.improve_swept.new.start c.args.settings.now.depth (allowed_to c.args.settings.now.tries c.in_ok-outcome.outcome) c.in_ok-outcome.outcome c.in_ok-outcome.made (g.S.Shelf.files c.args.shelf.now) (g.S.Shelf.files c.improve_swept.new.shelf) c.args.journal.now (c.in_ok-outcome.ensures.through c.args.graph (subst (λ (rs : List Record). HasBegun c.args.graph c.args.settings.now.depth c.in_ok-space.space.trial.graph rs) (sym c.deref.ensures.value) c.in_ok-space.ensures.begun)) c.into_graph.ensures in
    t.optimised

pub returns-clause-keeps : goal.returns-clause-keeps
returns-clause-keeps g c =
    let t : IsThrough c.args.graph c.args.start.now c.improve_swept.new.start c.args.settings.now.depth (allowed_to c.args.settings.now.tries c.in_ok-outcome.outcome) c.into_graph.result c.in_ok-outcome.outcome c.in_ok-outcome.made (g.S.Shelf.files c.args.shelf.now) (g.S.Shelf.files c.improve_swept.new.shelf) c.args.journal.now = through_same c.args.graph c.improve_swept.new.space.trial.graph c.into_graph.result c.args.start.now c.improve_swept.new.start c.args.settings.now.depth (allowed_to c.args.settings.now.tries c.in_ok-outcome.outcome) c.in_ok-outcome.outcome c.in_ok-outcome.made (g.S.Shelf.files c.args.shelf.now) (g.S.Shelf.files c.improve_swept.new.shelf) c.args.journal.now (c.in_ok-outcome.ensures.through c.args.graph (subst (λ (rs : List Record). HasBegun c.args.graph c.args.settings.now.depth c.in_ok-space.space.trial.graph rs) (sym c.deref.ensures.value) c.in_ok-space.ensures.begun)) c.into_graph.ensures in
    c.accepted_runs_keep.ensures (net_of c.args.graph) (net_of c.into_graph.result) t.optimised.records c.well_formed-2.ensures.net t.optimised.improved.accepted

pub returns-clause-tidy : goal.returns-clause-tidy
returns-clause-tidy g c =
    let t : IsThrough c.args.graph c.args.start.now c.improve_swept.new.start c.args.settings.now.depth (allowed_to c.args.settings.now.tries c.in_ok-outcome.outcome) c.into_graph.result c.in_ok-outcome.outcome c.in_ok-outcome.made (g.S.Shelf.files c.args.shelf.now) (g.S.Shelf.files c.improve_swept.new.shelf) c.args.journal.now = through_same c.args.graph c.improve_swept.new.space.trial.graph c.into_graph.result c.args.start.now c.improve_swept.new.start c.args.settings.now.depth (allowed_to c.args.settings.now.tries c.in_ok-outcome.outcome) c.in_ok-outcome.outcome c.in_ok-outcome.made (g.S.Shelf.files c.args.shelf.now) (g.S.Shelf.files c.improve_swept.new.shelf) c.args.journal.now (c.in_ok-outcome.ensures.through c.args.graph (subst (λ (rs : List Record). HasBegun c.args.graph c.args.settings.now.depth c.in_ok-space.space.trial.graph rs) (sym c.deref.ensures.value) c.in_ok-space.ensures.begun)) c.into_graph.ensures in
    t.optimised.improved.tidy

pub returns-clause-swept : goal.returns-clause-swept
returns-clause-swept g c =
    let t : IsThrough c.args.graph c.args.start.now c.improve_swept.new.start c.args.settings.now.depth (allowed_to c.args.settings.now.tries c.in_ok-outcome.outcome) c.into_graph.result c.in_ok-outcome.outcome c.in_ok-outcome.made (g.S.Shelf.files c.args.shelf.now) (g.S.Shelf.files c.improve_swept.new.shelf) c.args.journal.now = through_same c.args.graph c.improve_swept.new.space.trial.graph c.into_graph.result c.args.start.now c.improve_swept.new.start c.args.settings.now.depth (allowed_to c.args.settings.now.tries c.in_ok-outcome.outcome) c.in_ok-outcome.outcome c.in_ok-outcome.made (g.S.Shelf.files c.args.shelf.now) (g.S.Shelf.files c.improve_swept.new.shelf) c.args.journal.now (c.in_ok-outcome.ensures.through c.args.graph (subst (λ (rs : List Record). HasBegun c.args.graph c.args.settings.now.depth c.in_ok-space.space.trial.graph rs) (sym c.deref.ensures.value) c.in_ok-space.ensures.begun)) c.into_graph.ensures in
    t.optimised.improved.swept

pub returns-clause-fewer : goal.returns-clause-fewer
returns-clause-fewer g c =
    let t : IsThrough c.args.graph c.args.start.now c.improve_swept.new.start c.args.settings.now.depth (allowed_to c.args.settings.now.tries c.in_ok-outcome.outcome) c.into_graph.result c.in_ok-outcome.outcome c.in_ok-outcome.made (g.S.Shelf.files c.args.shelf.now) (g.S.Shelf.files c.improve_swept.new.shelf) c.args.journal.now = through_same c.args.graph c.improve_swept.new.space.trial.graph c.into_graph.result c.args.start.now c.improve_swept.new.start c.args.settings.now.depth (allowed_to c.args.settings.now.tries c.in_ok-outcome.outcome) c.in_ok-outcome.outcome c.in_ok-outcome.made (g.S.Shelf.files c.args.shelf.now) (g.S.Shelf.files c.improve_swept.new.shelf) c.args.journal.now (c.in_ok-outcome.ensures.through c.args.graph (subst (λ (rs : List Record). HasBegun c.args.graph c.args.settings.now.depth c.in_ok-space.space.trial.graph rs) (sym c.deref.ensures.value) c.in_ok-space.ensures.begun)) c.into_graph.ensures in
    t.optimised.improved.fewer

pub returns-clause-within : goal.returns-clause-within
returns-clause-within g c =
    let t : IsThrough c.args.graph c.args.start.now c.improve_swept.new.start c.args.settings.now.depth (allowed_to c.args.settings.now.tries c.in_ok-outcome.outcome) c.into_graph.result c.in_ok-outcome.outcome c.in_ok-outcome.made (g.S.Shelf.files c.args.shelf.now) (g.S.Shelf.files c.improve_swept.new.shelf) c.args.journal.now = through_same c.args.graph c.improve_swept.new.space.trial.graph c.into_graph.result c.args.start.now c.improve_swept.new.start c.args.settings.now.depth (allowed_to c.args.settings.now.tries c.in_ok-outcome.outcome) c.in_ok-outcome.outcome c.in_ok-outcome.made (g.S.Shelf.files c.args.shelf.now) (g.S.Shelf.files c.improve_swept.new.shelf) c.args.journal.now (c.in_ok-outcome.ensures.through c.args.graph (subst (λ (rs : List Record). HasBegun c.args.graph c.args.settings.now.depth c.in_ok-space.space.trial.graph rs) (sym c.deref.ensures.value) c.in_ok-space.ensures.begun)) c.into_graph.ensures in
    t.within

pub returns-in_err-space-clause-stopped : goal.returns-in_err-space-clause-stopped
returns-in_err-space-clause-stopped g c =
    if_err c.from_residual.result _ (λ e. stopped_none c.texts_append.ensures (net_of c.args.graph) (g.S.Shelf.files c.args.shelf.now) c.args.journal.now c.requires.there)

pub returns-in_err-outcome-clause-stopped : goal.returns-in_err-outcome-clause-stopped
returns-in_err-outcome-clause-stopped g c =
    if_err c.from_residual-in_err-outcome.result _ (λ e. c.in_err-outcome.ensures.stopped c.args.graph (subst (λ (rs : List Record). HasBegun c.args.graph c.args.settings.now.depth c.in_ok-space.space.trial.graph rs) (sym c.deref.ensures.value) c.in_ok-space.ensures.begun))

pub returns-in_err-outcome-clause-optimised : goal.returns-in_err-outcome-clause-optimised
returns-in_err-outcome-clause-optimised g c =
    err_ok c.from_residual-in_err-outcome.result _ _ c.from_residual-in_err-outcome.ensures.1

pub returns-in_err-outcome-clause-keeps : goal.returns-in_err-outcome-clause-keeps
returns-in_err-outcome-clause-keeps g c =
    err_ok c.from_residual-in_err-outcome.result _ _ c.from_residual-in_err-outcome.ensures.1

pub returns-in_err-outcome-clause-tidy : goal.returns-in_err-outcome-clause-tidy
returns-in_err-outcome-clause-tidy g c =
    err_ok c.from_residual-in_err-outcome.result _ _ c.from_residual-in_err-outcome.ensures.1

pub returns-in_err-outcome-clause-swept : goal.returns-in_err-outcome-clause-swept
returns-in_err-outcome-clause-swept g c =
    err_ok c.from_residual-in_err-outcome.result _ _ c.from_residual-in_err-outcome.ensures.1

pub returns-in_err-outcome-clause-fewer : goal.returns-in_err-outcome-clause-fewer
returns-in_err-outcome-clause-fewer g c =
    err_ok c.from_residual-in_err-outcome.result _ _ c.from_residual-in_err-outcome.ensures.1

pub returns-in_err-outcome-clause-within : goal.returns-in_err-outcome-clause-within
returns-in_err-outcome-clause-within g c =
    err_ok c.from_residual-in_err-outcome.result _ _ c.from_residual-in_err-outcome.ensures.1

pub returns-in_err-outcome-clause-made : goal.returns-in_err-outcome-clause-made
returns-in_err-outcome-clause-made g c =
    err_ok c.from_residual-in_err-outcome.result _ _ c.from_residual-in_err-outcome.ensures.1

pub returns-clause-cut_short : goal.returns-clause-cut_short
returns-clause-cut_short g c =
    cut_on c.args.settings.now c.in_ok-outcome.done c.raise.new.work c.in_ok-outcome.outcome c.in_ok-outcome.ensures.cut_short
    (subst (λ (n : ℕ). c.in_ok-outcome.done ≤ n) (sym c.raise.ensures) (le-max_right _ _))

pub returns-in_err-outcome-clause-tries : goal.returns-in_err-outcome-clause-tries
returns-in_err-outcome-clause-tries g c =
    err_ok c.from_residual-in_err-outcome.result _ _ c.from_residual-in_err-outcome.ensures.1

pub returns-in_err-outcome-clause-cut_short : goal.returns-in_err-outcome-clause-cut_short
returns-in_err-outcome-clause-cut_short g c =
    err_ok c.from_residual-in_err-outcome.result _ _ c.from_residual-in_err-outcome.ensures.1
