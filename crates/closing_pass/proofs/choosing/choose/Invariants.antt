use Rattle.std.proofs.Common.{◌<◌, ◌-◌, ◌⊎◌, ◌≡◌, length}
use Rattle.closing_pass.specs.Inner.Findings.{AreChosen}
use Rattle.closing_pass.proofs.choosing.choose.Given as goal

abbrev pub invariant-loop-chosen : goal.invariant-loop-chosen
invariant-loop-chosen l = record {
  chosen : AreChosen l.faults l.found l.from l.chosen;
  next : (l.from < l.chosen.next) ⊎ (length l.chosen.places.items ≡ 0);
}

abbrev pub decreases-loop-chosen : goal.decreases-loop-chosen
decreases-loop-chosen l = length l.faults - l.chosen.next
