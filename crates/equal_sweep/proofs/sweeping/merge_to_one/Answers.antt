use Rattle.std.proofs.Common.{List, subst, sym}
use Rattle.gate_graph.specs.Circuit.{net_of}
use Rattle.journal_ranges.specs.Ranges.{AreFit}
use Rattle.journal_text.specs.Text.{AreEntries, record_entries}
use Rattle.journal_text.specs.declared.record.Record.{Record}
use Rattle.equal_sweep.proofs.Entries.{fit_entries}
use Rattle.equal_sweep.proofs.sweeping.merge_to_one.Goals as goal

pub returns-clause-written : goal.returns-clause-written
returns-clause-written c =
    subst (λ (rs : List Record). AreEntries (record_entries rs)) (sym c.of.ensures)
    (fit_entries c.in_ok-merged.records.items (c.accepted_runs_are_writable.ensures (net_of c.args.graph) (net_of c.in_ok-merged.merged) c.in_ok-merged.records.items c.in_ok-merged.ensures.accepted)
    (subst AreFit c.as_slice.ensures.value c.records_fit.ensures))
