-- What an answer about the miter's fault says of the models.
use Rattle.std.proofs.Common.{subst, sym, ℕ, ◌≡◌}
use Rattle.cover_decompose.specs.Spelled.{plain_net}
use Rattle.gate_net.specs.Net.{IsAcyclic, Net}
use Rattle.gate_net.specs.Values.{HasPin}
use Rattle.refutation.specs.Laws.{TreesRefute}
use Rattle.rm_base.specs.declared.numbers.Fault.{Fault}
use Rattle.rm_model.specs.declared.parts.Model.{Model}
use Rattle.equal_miter.specs.Equal.{AreComparable, models_fault, models_miter}
use Rattle.equal_miter.specs.Likeness.{IsEvidence, IsLikeness}
use Rattle.equal_miter.specs.ModelLaws.{ApartIsNotSame, TestsTellApart, UndetectedMeansSame}
use Rattle.equal_miter.specs.declared.likeness.Likeness.{Likeness}
use Rattle.equal_miter.specs.declared.likeness.Likeness.TheVariants.{Differ, Same, Undecided}
use Rattle.equal_miter.proofs.Telling.{fault_has_pin}

pub models_have_pin : (m n : Model) → HasPin (models_miter m n) (models_fault m n)
models_have_pin m n = fault_has_pin (plain_net m) (plain_net n)

pub likeness_of : UndetectedMeansSame → TestsTellApart → ApartIsNotSame → TreesRefute → (m n : Model) (budget : ℕ) (l : Likeness) → AreComparable m n → IsAcyclic (models_miter m n)
    → IsEvidence (models_miter m n) (models_fault m n) budget l → IsLikeness m n budget l
likeness_of same apart not_both refute m n budget (Same items) h acyclic e =
    let pin = models_have_pin m n in (e, same m n h acyclic (refute (models_miter m n) (models_fault m n) pin.0 items acyclic pin.1 e))
likeness_of same apart not_both refute m n budget (Differ bits) h acyclic e = let d = apart m n bits h acyclic e in (d, not_both m n bits d)
likeness_of same apart not_both refute m n budget (Undecided items) h acyclic e = e

-- the same over the net and the fault that were built
pub pin_there : (m n : Model) (net : Net) (fault : Fault) → net ≡ models_miter m n → fault ≡ models_fault m n → HasPin net fault
pin_there m n net fault same stuck = subst (λ (n : Net). HasPin n fault) (sym same) (subst (λ (f : Fault). HasPin (models_miter m n) f) (sym stuck) (models_have_pin m n))

pub answered : UndetectedMeansSame → TestsTellApart → ApartIsNotSame → TreesRefute → (m n : Model) (budget : ℕ) (l : Likeness) (net : Net) (fault : Fault) → net ≡ models_miter m n → fault ≡ models_fault m n
    → AreComparable m n → IsAcyclic net → IsEvidence net fault budget l → IsLikeness m n budget l
answered same apart not_both refute m n budget l net fault is stuck h acyclic e =
    likeness_of same apart not_both refute m n budget l h (subst (λ (n : Net). IsAcyclic n) is acyclic)
    (subst (λ (f : Fault). IsEvidence (models_miter m n) f budget l) stuck (subst (λ (n : Net). IsEvidence n fault budget l) is e))
