-- What is shown on a miter is evidence of its models, and no other is.
use Rattle.std.proofs.Common.{List, ℕ, ◌≡◌}
use Rattle.std.specs.Prelude.{◌↔◌}
use Rattle.cover_decompose.specs.Spelled.{plain_net}
use Rattle.equal_evidence.specs.Laws.{EvidenceIsShown, LikenessesAreEvidence, SweptMeansSame}
use Rattle.equal_evidence.specs.Shown.{IsEvidenceFor, IsShown}
use Rattle.equal_evidence.specs.declared.evidence.Evidence.TheVariants.{Merged, Plain}
use Rattle.equal_miter.specs.Equal.{SameFunction, models_fault, models_miter}
use Rattle.equal_miter.specs.ModelLaws.{ApartIsNotSame, TestsTellApart, UndetectedMeansSame}
use Rattle.equal_miter.specs.declared.likeness.Likeness.TheVariants.{Differ, Same, Undecided}
use Rattle.refutation.specs.Laws.{TreesRefute}
use Rattle.equal_evidence.proofs.Differences.{Given, differences_are_tests}
use Rattle.equal_evidence.proofs.Last.{fault_has_pin}

pub shown : SweptMeansSame → TreesRefute → UndetectedMeansSame → TestsTellApart → ApartIsNotSame → Given → EvidenceIsShown
shown swept refute same apart not_both given m n budget (Plain (Same items)) h formed = (to, λ e. e.0)
  where
    to : IsShown (models_miter m n) (models_fault m n) budget (Plain (Same items)) → IsEvidenceFor m n budget (Plain (Same items))
    to accepted =
        let pin = fault_has_pin (plain_net m) (plain_net n) in
        (accepted, same m n h formed.acyclic (refute (models_miter m n) (models_fault m n) pin.0 items formed.acyclic pin.1 accepted))
shown swept refute same apart not_both given m n budget (Plain (Differ bits)) h formed = (to, λ e. differences_are_tests given m n h formed.acyclic bits e.0)
  where
    to : IsShown (models_miter m n) (models_fault m n) budget (Plain (Differ bits)) → IsEvidenceFor m n budget (Plain (Differ bits))
    to test = let d = apart m n bits h formed.acyclic test in (d, not_both m n bits d)
shown swept refute same apart not_both given m n budget (Plain (Undecided items)) h formed = (λ s. s, λ s. s)
shown swept refute same apart not_both given m n budget (Merged records) h formed = (λ s. (s, swept m n records h formed s), λ e. e.0)

pub likenesses : LikenessesAreEvidence
likenesses m n budget (Same items) l = l
likenesses m n budget (Differ bits) l = l
likenesses m n budget (Undecided items) l = record { tree = l.tree; same = l.same; accepted = l.accepted; size = l.size }
