use Rattle.std.proofs.Common.{refl}
use Rattle.implications.specs.declared.outcome.Closed.TheVariants.{Clash, Open}
use Rattle.recursive_learning.specs.Detected.{CloseStaysOpen, RefuteStaysOpen}
use Rattle.refutation.specs.Detected.{DetectedNeverClash}
use Rattle.recursive_learning.proofs.detected.stay_open.Goals as goal

close : DetectedNeverClash → CloseStaysOpen
close never net fault acyclic stuck a detects lines (Clash items) is = absurd ((never net fault acyclic stuck a detects).0 is.clashes)
close never net fault acyclic stuck a detects lines (Open facts) is = (facts, refl)

refute : DetectedNeverClash → RefuteStaysOpen
refute never net fault acyclic stuck a detects depth (Clash items) is = absurd ((never net fault acyclic stuck a detects).1 depth is.0)
refute never net fault acyclic stuck a detects depth (Open facts) is = (facts, refl)

pub returns-clause-close : goal.returns-clause-close
returns-clause-close c = close c.detected_faults_stay_open.ensures.clash

pub returns-clause-refute : goal.returns-clause-refute
returns-clause-refute c = refute c.detected_faults_stay_open.ensures.clash
