-- Evidence that decides.
use Rattle.equal_evidence.specs.declared.evidence.Evidence.{Evidence}
use Rattle.equal_evidence.specs.declared.evidence.Evidence.TheVariants.{Merged, Plain}
use Rattle.equal_miter.specs.declared.likeness.Likeness.TheVariants.{Differ, Same, Undecided}

-- it shows that the models compute the same, or that they don't
abbrev pub IsDecided : Evidence → Type 0
IsDecided (Plain (Same items)) = Unit {0}
IsDecided (Plain (Differ bits)) = Unit {0}
IsDecided (Plain (Undecided items)) = ⊥
IsDecided (Merged records) = Unit {0}
