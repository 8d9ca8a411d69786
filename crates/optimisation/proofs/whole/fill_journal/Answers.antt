use Rattle.std.proofs.Common.{inr}
use Rattle.gate_graph.specs.Circuit.{net_of}
use Rattle.optimisation.proofs.FilledLaws.{filled, left_in_end, left_in_verdicts}
use Rattle.optimisation.proofs.whole.fill_journal.Goals as goal
use Rattle.rm_base.proofs.Public.{on_err}

pub write_verdicts-requires-clause-recordable : goal.write_verdicts-requires-clause-recordable
write_verdicts-requires-clause-recordable g c =
    let ended = c.in_ok-rounds.ensures.turned in
    c.closed_are_recordable.ensures (net_of c.in_ok-rounds.rounds.last.graph) c.args.settings.now.budget c.in_ok-rounds.rounds.report.verdicts.items
    (c.accepted_runs_keep.ensures (net_of c.args.graph) (net_of c.in_ok-rounds.rounds.last.graph) ended.records c.well_formed-2.ensures.net ended.run.accepted).form
    ended.run.tidy ended.closed

pub returns-in_err-write_verdicts-clause-stopped : goal.returns-in_err-write_verdicts-clause-stopped
returns-in_err-write_verdicts-clause-stopped g c =
    on_err c.from_residual-in_err-write_verdicts.result (inr (left_in_verdicts c.texts_append.ensures (net_of c.args.graph) c.args.settings.now c.in_ok-rounds.rounds (g.S.Shelf.files c.args.shelf.now) (g.S.Shelf.files c.go_turns.new.shelf) (g.S.Shelf.files c.write_verdicts.new.shelf) c.args.journal.now c.in_ok-rounds.ensures.turned c.in_err-write_verdicts.ensures.stopped))

pub returns-in_err-append_entry-clause-stopped : goal.returns-in_err-append_entry-clause-stopped
returns-in_err-append_entry-clause-stopped g c =
    on_err c.from_residual-in_err-append_entry.result (inr (left_in_end c.texts_append.ensures (net_of c.args.graph) c.args.settings.now c.in_ok-rounds.rounds (g.S.Shelf.files c.args.shelf.now) (g.S.Shelf.files c.go_turns.new.shelf) (g.S.Shelf.files c.write_verdicts.new.shelf) (g.S.Shelf.files c.append_entry.new.shelf) c.args.journal.now
    c.in_ok-rounds.ensures.turned c.in_ok-write_verdicts.ensures.written c.in_err-append_entry.ensures.stopped))

pub returns-clause-filled : goal.returns-clause-filled
returns-clause-filled g c =
    let ended = c.in_ok-rounds.ensures.turned in
    filled c.runs_join.ensures c.accepted_runs_are_writable.ensures c.fitting_are_entries.ensures c.texts_append.ensures (net_of c.args.graph) c.args.settings.now c.in_ok-rounds.rounds (g.S.Shelf.files c.args.shelf.now) (g.S.Shelf.files c.go_turns.new.shelf) (g.S.Shelf.files c.write_verdicts.new.shelf) (g.S.Shelf.files c.append_entry.new.shelf) c.args.journal.now
    c.in_ok-rounds.ensures.turned c.requires.settings.budget.0 c.requires.settings.budget.1
    (c.closed_are_recordable.ensures (net_of c.in_ok-rounds.rounds.last.graph) c.args.settings.now.budget c.in_ok-rounds.rounds.report.verdicts.items
    (c.accepted_runs_keep.ensures (net_of c.args.graph) (net_of c.in_ok-rounds.rounds.last.graph) ended.records c.well_formed-2.ensures.net ended.run.accepted).form
    ended.run.tidy ended.closed)
    c.in_ok-write_verdicts.ensures.fit c.in_ok-write_verdicts.ensures.written c.in_ok-append_entry.ensures.written
