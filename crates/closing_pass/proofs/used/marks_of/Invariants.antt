use Rattle.std.proofs.Common.{◌≡◌, length}
use Rattle.closing_pass.proofs.UsedVectors.{AreMarksBefore}
use Rattle.closing_pass.proofs.used.marks_of.Given as goal

abbrev pub invariant-loop-finding : goal.invariant-loop-finding
invariant-loop-finding l = record {
  size : length l.marks.items ≡ l.count;
  marks : AreMarksBefore l.found l.finding-index l.marks.items;
}
