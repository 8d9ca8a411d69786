use Rattle.std.proofs.Common.{◌≡◌, ◌≤◌, ◌+◌, drop}
use Rattle.optimisation.specs.Tests.{hits_among, spents_among}
use Rattle.closing_pass.specs.Recording.{verdict_records}
use Rattle.optimisation.proofs.whole.count_verdicts.Given as goal

abbrev pub invariant-loop-entry : goal.invariant-loop-entry
invariant-loop-entry l = record {
  tested : l.tested + hits_among (verdict_records (drop l.entry-index l.entry-items)) ≡ hits_among (verdict_records l.report.verdicts.items);
  spent : l.spent + spents_among (verdict_records (drop l.entry-index l.entry-items)) ≡ spents_among (verdict_records l.report.verdicts.items);
  few_tested : l.tested ≤ l.entry-index;
  few_spent : l.spent ≤ l.entry-index;
}
