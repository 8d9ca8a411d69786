-- What a proof on two models comes to.
use Rattle.std.proofs.Common.{Bool, List, None, Ok, Some, [], ap, arith, false, refl, subst, sym, true, ℕ, ◌<◌, ◌∙◌, ◌∷◌, ◌≡◌, ◌≢◌, ◌≤◌}
use Rattle.std.specs.Option.{option_map}
use Rattle.std.specs.Prelude.{Option}
use Rattle.cover_decompose.specs.Spelled.{plain_decomposed, plain_net}
use Rattle.cover_decompose.specs.Limits.{most_pins}
use Rattle.equal_evidence.specs.Evidence.{IsProof}
use Rattle.equal_evidence.specs.Laws.{EvidenceIsShown}
use Rattle.equal_evidence.specs.Shown.{IsEvidenceFor, IsShown}
use Rattle.equal_evidence.specs.declared.evidence.Evidence.{Evidence}
use Rattle.equal_evidence.specs.declared.evidence.Evidence.TheVariants.{Merged, Plain}
use Rattle.equal_miter.specs.Equal.{AreComparable, models_fault, models_miter}
use Rattle.equal_miter.specs.Refusals.{HaveSameNames, IsMiterRefused, first_difference}
use Rattle.equal_miter.specs.declared.likeness.Likeness.TheVariants.{Differ, Same, Undecided}
use Rattle.equal_miter.specs.declared.refusal.MiterRefusal.TheVariants as miter
use Rattle.equal_evidence.proofs.Public.{fault_has_pin}
use Rattle.gate_net.specs.Net.{IsWellFormed, Net}
use Rattle.gate_net.specs.Values.{HasPin}
use Rattle.proof_check.specs.Flaws.{IsFlaw}
use Rattle.proof_check.specs.Inner.Judging.{IsUnlikeNames, IsUnread}
use Rattle.proof_check.specs.Laws.{FlawsHide}
use Rattle.proof_check.specs.Refusals.{HasFlaw, IsJudgeRefused, IsOfText}
use Rattle.proof_check.specs.declared.refusal.JudgeRefusal.{JudgeRefusal}
use Rattle.proof_check.specs.declared.refusal.JudgeRefusal.TheVariants as refusal
use Rattle.rm_base.specs.Words.{Word}
use Rattle.rm_base.specs.declared.numbers.Fault.{Fault}
use Rattle.rm_model.specs.Value.{observed_names, source_names}
use Rattle.rm_model.specs.Words.{is_word}
use Rattle.rm_model.specs.declared.parts.Model.{Model}
use Rattle.rm_model.proofs.Public.{is_word-same}

-- models that aren't too large aren't refused for it
pub no_limit : (m n : Model) (second : Bool) (pins : ℕ) → plain_decomposed m ≤ most_pins → plain_decomposed n ≤ most_pins → IsMiterRefused m n (miter.Limit second pins) → ⊥
no_limit m n false pins few other (names, (more, is)) = omega (arith, few, more)
no_limit m n true pins few other (names, (less, (more, is))) = omega (arith, other, more)

-- a list differs from itself nowhere
no_difference : (xs : List Word) → first_difference xs xs ≡ None
no_difference [] = refl
no_difference (x ∷ xs) = rw (is_word-same x, no_difference xs) refl

none_differs : (xs ys : List Word) (at : ℕ) → xs ≡ ys → first_difference xs ys ≡ Some at → ⊥
none_differs xs ys at same e = let none : first_difference xs ys ≡ None = ap (λ (l : List Word). first_difference xs l) (sym same) ∙ no_difference xs in cc

pub unlike_refused : (m n : Model) (text : List ℕ) (r : JudgeRefusal) → IsUnlikeNames m n r → IsJudgeRefused m n text r
unlike_refused m n text (refusal.UnlikeSources at) u = u
unlike_refused m n text (refusal.UnlikeObserved at) u = u
unlike_refused m n text refusal.NoMemory u = tt
unlike_refused m n text (refusal.Text f) u = absurd u
unlike_refused m n text (refusal.NoStep k) u = absurd u
unlike_refused m n text (refusal.Record j) u = absurd u
unlike_refused m n text refusal.NotOne u = absurd u
unlike_refused m n text (refusal.Tree c) u = absurd u
unlike_refused m n text refusal.VectorMisses u = absurd u
unlike_refused m n text (refusal.SpentShort edges budget) u = absurd u

pub unlike_no_text : (m n : Model) (r : JudgeRefusal) → IsUnlikeNames m n r → IsOfText r → ⊥
unlike_no_text m n (refusal.UnlikeSources at) u t = t
unlike_no_text m n (refusal.UnlikeObserved at) u t = t
unlike_no_text m n refusal.NoMemory u t = t
unlike_no_text m n (refusal.Text f) u t = u
unlike_no_text m n (refusal.NoStep k) u t = u
unlike_no_text m n (refusal.Record j) u t = u
unlike_no_text m n refusal.NotOne u t = u
unlike_no_text m n (refusal.Tree c) u t = u
unlike_no_text m n refusal.VectorMisses u t = u
unlike_no_text m n (refusal.SpentShort edges budget) u t = u

pub same_names_only : (m n : Model) (r : JudgeRefusal) → HaveSameNames m n → IsUnlikeNames m n r → r ≡ refusal.NoMemory
same_names_only m n (refusal.UnlikeSources at) h u = absurd (none_differs (source_names m) (source_names n) at h.sources u)
same_names_only m n (refusal.UnlikeObserved at) h u = absurd (none_differs (observed_names m) (observed_names n) at h.observed u.1)
same_names_only m n refusal.NoMemory h u = refl
same_names_only m n (refusal.Text f) h u = absurd u
same_names_only m n (refusal.NoStep k) h u = absurd u
same_names_only m n (refusal.Record j) h u = absurd u
same_names_only m n refusal.NotOne h u = absurd u
same_names_only m n (refusal.Tree c) h u = absurd u
same_names_only m n refusal.VectorMisses h u = absurd u
same_names_only m n (refusal.SpentShort edges budget) h u = absurd u

pub unread_refused : (m n : Model) (text : List ℕ) (r : JudgeRefusal) → IsUnread text r → IsJudgeRefused m n text r
unread_refused m n text (refusal.Text f) u = u
unread_refused m n text refusal.NoMemory u = tt
unread_refused m n text (refusal.UnlikeSources at) u = absurd u
unread_refused m n text (refusal.UnlikeObserved at) u = absurd u
unread_refused m n text (refusal.NoStep k) u = absurd u
unread_refused m n text (refusal.Record j) u = absurd u
unread_refused m n text refusal.NotOne u = absurd u
unread_refused m n text (refusal.Tree c) u = absurd u
unread_refused m n text refusal.VectorMisses u = absurd u
unread_refused m n text (refusal.SpentShort edges budget) u = absurd u

-- where a text is read, nothing is refused but out of memory
pub unread_only : (text : List ℕ) (budget : ℕ) (e : Evidence) (r : JudgeRefusal) → IsProof text budget e → IsUnread text r → r ≡ refusal.NoMemory
unread_only text budget e (refusal.Text f) p u = absurd (u budget e p)
unread_only text budget e refusal.NoMemory p u = refl
unread_only text budget e (refusal.UnlikeSources at) p u = absurd u
unread_only text budget e (refusal.UnlikeObserved at) p u = absurd u
unread_only text budget e (refusal.NoStep k) p u = absurd u
unread_only text budget e (refusal.Record j) p u = absurd u
unread_only text budget e refusal.NotOne p u = absurd u
unread_only text budget e (refusal.Tree c) p u = absurd u
unread_only text budget e refusal.VectorMisses p u = absurd u
unread_only text budget e (refusal.SpentShort edges given) p u = absurd u

pub unread_never : (text : List ℕ) (budget : ℕ) (e : Evidence) (r : JudgeRefusal) → IsUnread text r → IsOfText r → IsProof text budget e → ⊥
unread_never text budget e r u t p = no_memory (unread_only text budget e r p u)
  where
    no_memory : r ≡ refusal.NoMemory → ⊥
    no_memory is = subst IsOfText is t

-- evidence on a net that is the miter
pub shown_for : EvidenceIsShown → (m n : Model) (net : Net) (fault : Fault) (budget : ℕ) (e : Evidence) → net ≡ models_miter m n → fault ≡ models_fault m n → AreComparable m n → IsWellFormed net
    → (IsShown net fault budget e → IsEvidenceFor m n budget e) × (IsEvidenceFor m n budget e → IsShown net fault budget e)
shown_for law m n net fault budget e is are comparable formed =
    subst (λ (x : Net). (IsShown x fault budget e → IsEvidenceFor m n budget e) × (IsEvidenceFor m n budget e → IsShown x fault budget e)) (sym is)
    (subst (λ (f : Fault). (IsShown (models_miter m n) f budget e → IsEvidenceFor m n budget e) × (IsEvidenceFor m n budget e → IsShown (models_miter m n) f budget e)) (sym are)
    (law m n budget e comparable (subst IsWellFormed is formed)))

-- the pin of the fault is there
pub pin_for : (m n : Model) (net : Net) (fault : Fault) → net ≡ models_miter m n → fault ≡ models_fault m n → HasPin net fault
pin_for m n net fault is are =
    subst (λ (x : Net). HasPin x fault) (sym is) (subst (λ (f : Fault). HasPin (models_miter m n) f) (sym are) (fault_has_pin (plain_net m) (plain_net n)))

flaw_at : (m n : Model) (net : Net) (fault : Fault) (budget : ℕ) (e : Evidence) (r : JudgeRefusal) → net ≡ models_miter m n → fault ≡ models_fault m n → IsFlaw net fault budget e r → IsFlaw (models_miter m n) (models_fault m n) budget e r
flaw_at m n net fault budget e r is are f = subst (λ (x : Net). IsFlaw x (models_fault m n) budget e r) is (subst (λ (g : Fault). IsFlaw net g budget e r) are f)

-- the names of models are no flaw of evidence, nor is a text
no_unlike_sources : (net : Net) (fault : Fault) (budget : ℕ) (e : Evidence) (at : ℕ) → IsFlaw net fault budget e (refusal.UnlikeSources at) → ⊥
no_unlike_sources net fault budget (Plain (Same items)) at f = f
no_unlike_sources net fault budget (Plain (Differ bits)) at f = f.0
no_unlike_sources net fault budget (Plain (Undecided items)) at f = f
no_unlike_sources net fault budget (Merged records) at f = f

no_unlike_observed : (net : Net) (fault : Fault) (budget : ℕ) (e : Evidence) (at : ℕ) → IsFlaw net fault budget e (refusal.UnlikeObserved at) → ⊥
no_unlike_observed net fault budget (Plain (Same items)) at f = f
no_unlike_observed net fault budget (Plain (Differ bits)) at f = f.0
no_unlike_observed net fault budget (Plain (Undecided items)) at f = f
no_unlike_observed net fault budget (Merged records) at f = f

no_text : (net : Net) (fault : Fault) (budget : ℕ) (e : Evidence) (t : _) → IsFlaw net fault budget e (refusal.Text t) → ⊥
no_text net fault budget (Plain (Same items)) t f = f
no_text net fault budget (Plain (Differ bits)) t f = f.0
no_text net fault budget (Plain (Undecided items)) t f = f
no_text net fault budget (Merged records) t f = f

module _ (shown : EvidenceIsShown) (hide : FlawsHide) (m n : Model) (text : List ℕ) (net : Net) (fault : Fault) (is : net ≡ models_miter m n) (are : fault ≡ models_fault m n)
    (comparable : AreComparable m n) (formed : IsWellFormed net) (budget : ℕ) (e : Evidence) (says : IsProof text budget e)
    (one : (b : ℕ) (d : Evidence) → IsProof text b d → (budget ≡ b) × (e ≡ d)) where
  has_flaw : (r : JudgeRefusal) → IsFlaw net fault budget e r → HasFlaw m n text r
  has_flaw r f = record { budget = budget; evidence = e; says = says; flaw = flaw_at m n net fault budget e r is are f }

  pub flaw_refused : (r : JudgeRefusal) → (r ≢ refusal.NoMemory → IsFlaw net fault budget e r) → IsJudgeRefused m n text r
  flaw_refused (refusal.UnlikeSources at) f = absurd (no_unlike_sources net fault budget e at (f (λ x. cc)))
  flaw_refused (refusal.UnlikeObserved at) f = absurd (no_unlike_observed net fault budget e at (f (λ x. cc)))
  flaw_refused (refusal.Text t) f = absurd (no_text net fault budget e t (f (λ x. cc)))
  flaw_refused refusal.NoMemory f = tt
  flaw_refused (refusal.NoStep k) f = has_flaw (refusal.NoStep k) (f (λ x. cc))
  flaw_refused (refusal.Record j) f = has_flaw (refusal.Record j) (f (λ x. cc))
  flaw_refused refusal.NotOne f = has_flaw refusal.NotOne (f (λ x. cc))
  flaw_refused (refusal.Tree c) f = has_flaw (refusal.Tree c) (f (λ x. cc))
  flaw_refused refusal.VectorMisses f = has_flaw refusal.VectorMisses (f (λ x. cc))
  flaw_refused (refusal.SpentShort edges given) f = has_flaw (refusal.SpentShort edges given) (f (λ x. cc))

  -- no other evidence has the text, and this one shows nothing
  flaw_never : (r : JudgeRefusal) → IsFlaw net fault budget e r → (b : ℕ) (d : Evidence) → IsProof text b d → IsEvidenceFor m n b d → ⊥
  flaw_never r f b d p x =
      let same = one b d p in
      let mine : IsEvidenceFor m n budget e = subst (λ (k : ℕ). IsEvidenceFor m n k e) (sym same.0) (subst (λ (y : Evidence). IsEvidenceFor m n b y) (sym same.1) x) in
      hide net fault budget e r f ((shown_for shown m n net fault budget e is are comparable formed).1 mine)

  pub flaw_only : (r : JudgeRefusal) → (r ≢ refusal.NoMemory → IsFlaw net fault budget e r) → (b : ℕ) (d : Evidence) → IsProof text b d → IsEvidenceFor m n b d → r ≡ refusal.NoMemory
  flaw_only refusal.NoMemory f b d p x = refl
  flaw_only (refusal.UnlikeSources at) f b d p x = absurd (flaw_never (refusal.UnlikeSources at) (f (λ y. cc)) b d p x)
  flaw_only (refusal.UnlikeObserved at) f b d p x = absurd (flaw_never (refusal.UnlikeObserved at) (f (λ y. cc)) b d p x)
  flaw_only (refusal.Text t) f b d p x = absurd (flaw_never (refusal.Text t) (f (λ y. cc)) b d p x)
  flaw_only (refusal.NoStep k) f b d p x = absurd (flaw_never (refusal.NoStep k) (f (λ y. cc)) b d p x)
  flaw_only (refusal.Record j) f b d p x = absurd (flaw_never (refusal.Record j) (f (λ y. cc)) b d p x)
  flaw_only refusal.NotOne f b d p x = absurd (flaw_never refusal.NotOne (f (λ y. cc)) b d p x)
  flaw_only (refusal.Tree c) f b d p x = absurd (flaw_never (refusal.Tree c) (f (λ y. cc)) b d p x)
  flaw_only refusal.VectorMisses f b d p x = absurd (flaw_never refusal.VectorMisses (f (λ y. cc)) b d p x)
  flaw_only (refusal.SpentShort edges given) f b d p x = absurd (flaw_never (refusal.SpentShort edges given) (f (λ y. cc)) b d p x)

  pub flaw_of_text : (r : JudgeRefusal) → (r ≢ refusal.NoMemory → IsFlaw net fault budget e r) → IsOfText r → (b : ℕ) (d : Evidence) → IsProof text b d → IsEvidenceFor m n b d → ⊥
  flaw_of_text r f t b d p x = subst IsOfText (flaw_only r f b d p x) t
