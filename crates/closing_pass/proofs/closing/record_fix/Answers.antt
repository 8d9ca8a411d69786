use Rattle.std.proofs.Common.{◌≤◌, ◌+◌, [], arith, subst}
use Rattle.gate_graph.specs.Circuit.{Circuit, net_of}
use Rattle.gate_net.specs.Net.{IsWellFormed}
use Rattle.wire_edit.proofs.Public.{tidy_reads_none}
use Rattle.recorded_removals.specs.Going.{HasFixed, Logs}
use Rattle.closing_pass.proofs.Recorded.{fix_accepted, fix_recorded}
use Rattle.wire_edit.specs.Work.{work}
use Rattle.closing_pass.proofs.closing.record_fix.Goals as goal
use Rattle.rm_base.proofs.Public.{on_err}

pub fix_and_tidy-requires-clause-pin : goal.fix_and_tidy-requires-clause-pin
fix_and_tidy-requires-clause-pin g c =
    let formed : IsWellFormed (net_of c.args.trial.now.graph) = subst (λ (v : Circuit). IsWellFormed (net_of v)) c.graph.ensures c.well_formed-2.ensures.net in
    (c.requires.pin.0, (c.requires.pin.1, tidy_reads_none (net_of c.args.trial.now.graph) formed c.requires.tidy c.args.fault.gate.0 c.args.fault.position c.requires.pin.0 c.requires.pin.1))

pub returns-clause-fewer : goal.returns-clause-fewer
returns-clause-fewer g c =
    let formed : IsWellFormed (net_of c.args.trial.now.graph) = subst (λ (v : Circuit). IsWellFormed (net_of v)) c.graph.ensures c.well_formed-2.ensures.net in
    c.in_ok-fix_and_tidy.ensures.fewer (tidy_reads_none (net_of c.args.trial.now.graph) formed c.requires.tidy)

pub returns-in_err-append_records-clause-stopped : goal.returns-in_err-append_records-clause-stopped
returns-in_err-append_records-clause-stopped g c =
    let logs : Logs (net_of c.args.trial.now.graph) (net_of c.fix_and_tidy.new.trial.graph) [] c.fix_and_tidy.new.log.items = rw c.new-log.ensures.items at c.in_ok-fix_and_tidy.ensures.goes.logs in
    on_err c.from_residual-in_err-append_records.result (record {
      records = c.fix_and_tidy.new.log.items;
      after = net_of c.fix_and_tidy.new.trial.graph;
      accepted = fix_accepted (net_of c.args.trial.now.graph) (net_of c.fix_and_tidy.new.trial.graph) c.fix_and_tidy.new.log.items logs;
      written = rw c.as_slice.ensures.value at c.in_err-append_records.ensures.stopped;
    })

pub returns-clause-recorded : goal.returns-clause-recorded
returns-clause-recorded g c =
    let logs : Logs (net_of c.args.trial.now.graph) (net_of c.fix_and_tidy.new.trial.graph) [] c.fix_and_tidy.new.log.items = rw c.new-log.ensures.items at c.in_ok-fix_and_tidy.ensures.goes.logs in
    let fixed : HasFixed c.args.fault c.args.tree [] c.fix_and_tidy.new.log.items = rw c.new-log.ensures.items at c.in_ok-fix_and_tidy.ensures.fixed in
    fix_recorded (net_of c.args.trial.now.graph) (net_of c.fix_and_tidy.new.trial.graph) c.args.fault c.args.tree c.fix_and_tidy.new.log.items c.args.made.now c.count_records.new.made (g.S.Shelf.files c.args.shelf.now) (g.S.Shelf.files c.append_records.new.shelf) c.args.journal.now
    logs fixed (rw c.as_slice.ensures.value at c.in_ok-append_records.ensures.written) (rw c.as_slice-3.ensures.value at c.records_fit.ensures) (rw c.as_slice-2.ensures.value at c.count_records.ensures)

pub returns-clause-went : goal.returns-clause-went
returns-clause-went g c = record {
  no_larger = c.in_ok-fix_and_tidy.ensures.goes.no_larger;
  held = c.in_ok-fix_and_tidy.ensures.goes.tallies.holds;
  room = λ le. let r : work (net_of c.fix_and_tidy.new.trial.graph) + 0 ≤ c.fix_and_tidy.new.trial.room.steps = c.in_ok-fix_and_tidy.ensures.goes.room 0 (omega (arith, le)) in omega (arith, r);
}
