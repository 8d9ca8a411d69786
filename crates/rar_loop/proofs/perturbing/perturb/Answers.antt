use Rattle.std.proofs.Common.{List, arith, sym, subst}
use Rattle.gate_graph.specs.Circuit.{net_of}
use Rattle.journal_text.specs.declared.record.Record.{Record}
use Rattle.rar_loop.specs.Inner.Improving.{HasBegun}
use Rattle.rar_loop.proofs.Looping.{err_ok, if_err}
use Rattle.rar_loop.proofs.Streaming.{stopped_none}
use Rattle.rar_loop.proofs.Turning.{turn_done, turn_few, turn_within}
use Rattle.rar_loop.proofs.perturbing.perturb.Goals as goal

pub perturb_opened-requires-clause-begun : goal.perturb_opened-requires-clause-begun
perturb_opened-requires-clause-begun g c =
    (c.args.graph, subst (λ (rs : List Record). HasBegun c.args.graph c.args.settings.now.depth c.in_ok-space.space.trial.graph rs) (sym c.deref.ensures.value) c.in_ok-space.ensures.begun)

pub returns-clause-perturbed : goal.returns-clause-perturbed
returns-clause-perturbed g c =
    let t = c.in_ok-made.ensures.through c.args.graph (subst (λ (rs : List Record). HasBegun c.args.graph c.args.settings.now.depth c.in_ok-space.space.trial.graph rs) (sym c.deref.ensures.value) c.in_ok-space.ensures.begun) in
    turn_done c.args.graph c.perturb_opened.new.space.trial.graph c.into_graph.result c.args.settings.now.depth c.args.settings.now.tries _ t.0 c.in_ok-made.made (g.S.Shelf.files c.args.shelf.now) (g.S.Shelf.files c.perturb_opened.new.shelf) c.args.journal.now c.into_graph.ensures c.in_ok-made.used (omega (arith, c.in_ok-made.ensures.within)) t.1

pub returns-clause-within : goal.returns-clause-within
returns-clause-within g c =
    let t = c.in_ok-made.ensures.through c.args.graph (subst (λ (rs : List Record). HasBegun c.args.graph c.args.settings.now.depth c.in_ok-space.space.trial.graph rs) (sym c.deref.ensures.value) c.in_ok-space.ensures.begun) in
    turn_within c.args.graph c.perturb_opened.new.space.trial.graph c.into_graph.result c.args.settings.now.depth c.args.settings.now.tries _ t.0 0 c.in_ok-made.made (g.S.Shelf.files c.args.shelf.now) (g.S.Shelf.files c.perturb_opened.new.shelf) c.args.journal.now c.into_graph.ensures t.1

pub returns-clause-made : goal.returns-clause-made
returns-clause-made g c =
    let t = c.in_ok-made.ensures.through c.args.graph (subst (λ (rs : List Record). HasBegun c.args.graph c.args.settings.now.depth c.in_ok-space.space.trial.graph rs) (sym c.deref.ensures.value) c.in_ok-space.ensures.begun) in
    turn_few c.runs_join.ensures c.args.graph c.perturb_opened.new.space.trial.graph c.args.settings.now.depth c.args.settings.now.tries _ t.0 0 c.in_ok-made.made (g.S.Shelf.files c.args.shelf.now) (g.S.Shelf.files c.perturb_opened.new.shelf) c.args.journal.now c.requires.tries t.1

pub returns-in_err-space-clause-stopped : goal.returns-in_err-space-clause-stopped
returns-in_err-space-clause-stopped g c =
    if_err c.from_residual.result _ (λ e. stopped_none c.texts_append.ensures (net_of c.args.graph) (g.S.Shelf.files c.args.shelf.now) c.args.journal.now c.requires.there)

pub returns-in_err-made-clause-stopped : goal.returns-in_err-made-clause-stopped
returns-in_err-made-clause-stopped g c =
    if_err c.from_residual-in_err-made.result _ (λ e. c.in_err-made.ensures.stopped c.args.graph (subst (λ (rs : List Record). HasBegun c.args.graph c.args.settings.now.depth c.in_ok-space.space.trial.graph rs) (sym c.deref.ensures.value) c.in_ok-space.ensures.begun))

pub returns-in_err-made-clause-perturbed : goal.returns-in_err-made-clause-perturbed
returns-in_err-made-clause-perturbed g c = err_ok c.from_residual-in_err-made.result _ _ c.from_residual-in_err-made.ensures.1

pub returns-in_err-made-clause-within : goal.returns-in_err-made-clause-within
returns-in_err-made-clause-within g c = err_ok c.from_residual-in_err-made.result _ _ c.from_residual-in_err-made.ensures.1

pub returns-in_err-made-clause-made : goal.returns-in_err-made-clause-made
returns-in_err-made-clause-made g c = err_ok c.from_residual-in_err-made.result _ _ c.from_residual-in_err-made.ensures.1
