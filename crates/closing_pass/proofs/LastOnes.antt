-- The verdicts of all faults.
use Rattle.std.proofs.Common.{◌≡◌, ℕ, ◌<◌, ◌≤◌, ◌⊎◌, inl, inr, Bool, Some, List, [], ◌∷◌, ◌++◌, length, refl, ◌∙◌, subst, arith}
use Rattle.std.specs.Prelude.{slice_get}
use Rattle.std.proofs.lemmas.Option.{slice_get_within}
use Rattle.gate_net.specs.Faults.{IsTest, faults_of}
use Rattle.gate_net.specs.Net.{Net}
use Rattle.podem.specs.declared.verdict.Verdict.{Verdict}
use Rattle.podem.specs.declared.verdict.Verdict.TheVariants as verdict
use Rattle.refutation.specs.declared.items.Item.{Item}
use Rattle.rm_base.specs.declared.numbers.Fault.{Fault}
use Rattle.closing_pass.specs.declared.finding.Finding.{Finding}
use Rattle.closing_pass.specs.declared.finding.Finding.TheVariants.{Detected, Open, Spent}
use Rattle.closing_pass.specs.Inner.Findings.{AreVerdictsOf, HasCome, Holds, IsNumbered, IsSought, IsVerdictOf}
use Rattle.closing_pass.specs.Reports.{AreClosed, IsClosing, fault_in}
use Rattle.std.proofs.lemmas.List.{length-append}
use Rattle.closing_pass.proofs.Standing.{by_recursion, mapped_is}
use Rattle.rm_base.proofs.Public.{front_stands, last_stands, one_stands, pushed_stands, stands_below}

-- once a pass has come to the end, each finding has its vector
pub numbered : (net : Net) (budget : ℕ) (kept : List (List Bool)) (tried : ℕ) (faults : List Fault) (found : List Finding) (next : ℕ) → HasCome net budget kept tried faults found next → length faults ≤ next → (j : ℕ) (finding : Finding) → slice_get found j ≡ Some finding → IsNumbered (length kept) finding
numbered net budget kept tried faults found next come all j finding is =
    let lt : j < length found = slice_get_within found j finding is in
    let f : (fault : Fault) × (slice_get faults j ≡ Some fault) = stands_below faults j (omega (arith, lt, come.findings.size)) in
    at finding is f.0 (come.findings.hold j f.0 finding f.1 is) (omega (arith, lt, come.findings.size, all))
  where
    at : (g : Finding) → slice_get found j ≡ Some g → (fault : Fault) → Holds net budget kept fault g → j < next → IsNumbered (length kept) g
    at Open is fault h lt = come.closed j lt is
    at (Detected number) is fault (v, (there, test)) lt = slice_get_within kept number v there
    at (Spent tree) is fault h lt = tt

closing_is : (net : Net) (budget : ℕ) (kept : List (List Bool)) (fault : Fault) (finding : Finding) (v : Verdict) → Holds net budget kept fault finding → IsVerdictOf kept finding v → IsClosing net budget fault v
closing_is net budget kept fault Open v h is = absurd is
closing_is net budget kept fault (Detected number) (verdict.Detected vector) (u, (there, test)) is = subst (IsTest net fault) (one_stands kept number u vector there is) test
closing_is net budget kept fault (Detected number) (verdict.Refuted tree) h is = absurd is
closing_is net budget kept fault (Detected number) (verdict.Spent tree) h is = absurd is
closing_is net budget kept fault (Spent tree) (verdict.Spent items) h is = rw is h
closing_is net budget kept fault (Spent tree) (verdict.Detected vector) h is = absurd is
closing_is net budget kept fault (Spent tree) (verdict.Refuted items) h is = absurd is

spent_sought : (kept : List (List Bool)) (finding : Finding) (tree : List Item) → IsVerdictOf kept finding (verdict.Spent tree) → IsSought finding
spent_sought kept Open tree is = absurd is
spent_sought kept (Detected number) tree is = absurd is
spent_sought kept (Spent items) tree is = tt

detected_kept : (kept : List (List Bool)) (finding : Finding) (vector : List Bool) → IsVerdictOf kept finding (verdict.Detected vector) → (k : ℕ) × (slice_get kept k ≡ Some vector)
detected_kept kept Open vector is = absurd is
detected_kept kept (Detected number) vector is = (number, is)
detected_kept kept (Spent items) vector is = absurd is

pub closed_is :
    (net : Net) (budget : ℕ) (kept : List (List Bool)) (found : List Finding) (next : ℕ) (verdicts : List (Fault × Verdict)) → HasCome net budget kept (length kept) (faults_of net) found next → AreVerdictsOf kept (faults_of net) found verdicts
    → AreClosed net budget verdicts
closed_is net budget kept found next verdicts come of = record {
  faults = mapped_is fault_in verdicts (faults_of net) (of.size ∙ come.findings.size) of.faults_are;
  closing = by_recursion (λ entry. IsClosing net budget entry.0 entry.1) verdicts (λ j entry is.
      let f = of.verdicts_are j entry is in closing_is net budget kept entry.0 f.0 entry.1 (come.findings.hold j entry.0 f.0 (of.faults_are j entry is) f.1.0) f.1.1);
  missed = λ j k fault other tree vector is there d.
      let f = of.verdicts_are j (fault, verdict.Spent tree) is in
      let g = of.verdicts_are k (other, verdict.Detected vector) there in
      let n : (k : ℕ) × (slice_get kept k ≡ Some vector) = detected_kept kept g.0 vector g.1.1 in
      come.trials j fault f.0 (of.faults_are j (fault, verdict.Spent tree) is) f.1.0 (spent_sought kept f.0 tree f.1.1) n.0 vector (slice_get_within kept n.0 vector n.1) n.1 d;
}

pub verdicts_none : (kept : List (List Bool)) (faults : List Fault) → AreVerdictsOf kept faults [] []
verdicts_none kept faults = record { size = refl; faults_are = λ j entry is. absurd (cc); verdicts_are = λ j entry is. absurd (cc) }

-- one more verdict
pub verdicts_more :
    (kept : List (List Bool)) (faults : List Fault) (done : List Finding) (finding : Finding) (verdicts : List (Fault × Verdict)) (fault : Fault) (v : Verdict) → AreVerdictsOf kept faults done verdicts → slice_get faults (length verdicts) ≡ Some fault
    → IsVerdictOf kept finding v → AreVerdictsOf kept faults (done ++ finding ∷ []) (verdicts ++ (fault, v) ∷ [])
verdicts_more kept faults done finding verdicts fault v of there is = record {
  size = let a = length-append verdicts ((fault, v) ∷ []) in let b = length-append done (finding ∷ []) in omega (arith, a, b, of.size);
  faults_are = λ j entry es. faults_at j entry (pushed_stands verdicts (fault, v) j entry es);
  verdicts_are = λ j entry es. verdicts_at j entry (pushed_stands verdicts (fault, v) j entry es);
}
  where
    faults_at : (j : ℕ) (entry : Fault × Verdict) → (slice_get verdicts j ≡ Some entry) ⊎ ((j ≡ length verdicts) × (entry ≡ (fault, v))) → slice_get faults j ≡ Some entry.0
    faults_at j entry (inl old) = of.faults_are j entry old
    faults_at j entry (inr (last, same)) = rw (last, same) there

    verdicts_at : (j : ℕ) (entry : Fault × Verdict) → (slice_get verdicts j ≡ Some entry) ⊎ ((j ≡ length verdicts) × (entry ≡ (fault, v))) → (f : Finding) × ((slice_get (done ++ finding ∷ []) j ≡ Some f) × IsVerdictOf kept f entry.1)
    verdicts_at j entry (inl old) = let f = of.verdicts_are j entry old in (f.0, (front_stands done (finding ∷ []) j f.0 f.1.0, f.1.1))
    verdicts_at j entry (inr (last, same)) = (finding, (rw (last, of.size) (last_stands done finding), rw same is))
