use Rattle.std.proofs.Common.{◌≡◌, ◌≤◌, ◌+◌, drop}
use Rattle.optimisation.specs.Tests.{hits_among, spents_among}
use Rattle.rambo_cli.proofs.caring.count_records.Given as goal

abbrev pub invariant-loop-record : goal.invariant-loop-record
invariant-loop-record l = record {
  tested : l.tested + hits_among (drop l.record-index l.records) ≡ hits_among l.records;
  spent : l.spent + spents_among (drop l.record-index l.records) ≡ spents_among l.records;
  few_tested : l.tested ≤ l.record-index;
  few_spent : l.spent ≤ l.record-index;
}
