use Rattle.std.proofs.Common.{◌≡◌, ◌++◌}
use Rattle.std.specs.Vec.Iter.{into_iter_items}
use Rattle.closing_pass.specs.Inner.Findings.{AreVerdictsOf}
use Rattle.closing_pass.proofs.verdicts.verdicts_of.Given as goal

abbrev pub invariant-loop-finding : goal.invariant-loop-finding
invariant-loop-finding l = record {
  all : l.fn.found.items ≡ l.yielded ++ into_iter_items l.finding-iterator;
  done : AreVerdictsOf l.kept l.faults l.yielded l.verdicts.items;
}
