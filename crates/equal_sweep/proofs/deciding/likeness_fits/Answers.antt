use Rattle.std.proofs.Common.{subst, sym}
use Rattle.equal_evidence.specs.Evidence.{IsWritten}
use Rattle.equal_evidence.specs.declared.evidence.Evidence.TheVariants.{Plain}
use Rattle.equal_miter.specs.Likeness.{IsLikeness}
use Rattle.equal_miter.specs.declared.likeness.Likeness.{Likeness}
use Rattle.equal_sweep.proofs.Entries.{same_written, spent_written}
use Rattle.equal_sweep.proofs.deciding.likeness_fits.Goals as goal

pub returns-in-Same : goal.returns-in-Same
returns-in-Same c = λ m n budget l.
    subst (λ (k : Likeness). IsWritten (Plain k)) (sym c.in-Same.is)
    (same_written m n budget c.in-Same.tree c.tree_fits.ensures (subst (λ (k : Likeness). IsLikeness m n budget k) c.in-Same.is l))

pub returns-in-Undecided : goal.returns-in-Undecided
returns-in-Undecided c = λ m n budget l.
    subst (λ (k : Likeness). IsWritten (Plain k)) (sym c.in-Undecided.is)
    (spent_written m n budget c.in-Undecided.tree c.tree_fits-in-Undecided.ensures (subst (λ (k : Likeness). IsLikeness m n budget k) c.in-Undecided.is l))
