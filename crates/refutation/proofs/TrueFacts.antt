-- The facts that are true of good and faulty values.
use Rattle.std.proofs.Common.{Bool, None, Some, ap, false, inl, inr, refl, suc, sym, true, zero, ℕ, ◌∙◌, ◌≡◌}
use Rattle.std.specs.Prelude.{not}
use Rattle.gate_net.proofs.Public.{same_bool_refl, same_bool_true}
use Rattle.gate_net.specs.Net.{IsAcyclic, Net}
use Rattle.gate_net.specs.Values.{HasPin, IsRun, SameObserved, same_bool}
use Rattle.refutation.specs.Closing.{IsClashFree, IsClosedUnderLines}
use Rattle.refutation.specs.Facts.{AreTrueFacts, IsTrueFact, known_good, one_of}
use Rattle.refutation.specs.Laws.{ClosedHasAll, LinesHold}
use Rattle.refutation.specs.Learning.{IsClosedAt}
use Rattle.refutation.specs.declared.reasoning.Fact.{Fact}
use Rattle.refutation.specs.declared.reasoning.Fact.TheVariants.{Differs, Equal, Faulty, Good}
use Rattle.refutation.proofs.Closings.{with_there}
use Rattle.rm_base.specs.declared.numbers.Fault.{Fault}
use Rattle.refutation.specs.Detected.{DetectedHaveOpenSets, DetectedNeverClash, TrueFactsAreClosed, true_facts}
use Rattle.rm_base.proofs.Public.{never_opposite}

-- what the set holds is true
right : (v f : ℕ → Bool) → AreTrueFacts v f (true_facts v f)
right v f x (Good b) e = same_bool_true (v x) b e
right v f x (Faulty b) e = same_bool_true (f x) b e
right v f x Equal e = same_bool_true (v x) (f x) e
right v f x Differs e = differs (v x) (f x) e
  where
    differs : (b c : Bool) → not (same_bool b c) ≡ true → b ≡ not c
    differs true true h = cc
    differs true false h = refl
    differs false true h = refl
    differs false false h = cc

same_of : (b c : Bool) → b ≡ c → same_bool b c ≡ true
same_of b c e = ap (same_bool b) (sym e) ∙ same_bool_refl b

-- and what is true is held
holds : (v f : ℕ → Bool) (x : ℕ) (fact : Fact) → IsTrueFact v f x fact → true_facts v f x fact ≡ true
holds v f x (Good b) e = same_of (v x) b e
holds v f x (Faulty b) e = same_of (f x) b e
holds v f x Equal e = same_of (v x) (f x) e
holds v f x Differs e = differs (v x) (f x) e
  where
    differs : (b c : Bool) → b ≡ not c → not (same_bool b c) ≡ true
    differs true true h = cc
    differs true false h = refl
    differs false true h = refl
    differs false false h = cc

free : (v f : ℕ → Bool) → IsClashFree (true_facts v f)
free v f x (inl (no', yes')) = let one = right v f x (Good false) no' in let other = right v f x (Good true) yes' in cc
free v f x (inr (inl (no', yes'))) = let one = right v f x (Faulty false) no' in let other = right v f x (Faulty true) yes' in cc
free v f x (inr (inr (same, other))) = never_opposite (f x) (sym (right v f x Equal same) ∙ right v f x Differs other)

known : (v f : ℕ → Bool) (d : ℕ) → known_good (true_facts v f) d ≡ Some (v d)
known v f d = at (v d)
  where
    at : (b : Bool) → one_of (same_bool b false) (same_bool b true) ≡ Some b
    at true = refl
    at false = refl

module _ (lines_hold : LinesHold) (net : Net) (fault : Fault) (acyclic : IsAcyclic net) (stuck : HasPin net fault) (a v f : ℕ → Bool) (run : IsRun net fault a v f) (differs : SameObserved net v f → ⊥) where
  lines : IsClosedUnderLines net fault (true_facts v f)
  lines l x fact concludes =
      holds v f x fact (lines_hold net fault stuck.0 acyclic stuck.1 a v f run differs (true_facts v f) (right v f) l x fact concludes x fact (with_there (true_facts v f) x fact))

  closed : (depth : ℕ) → IsClosedAt net fault depth (true_facts v f)
  closed zero = lines
  closed (suc depth) = (
    lines,
    λ y c unjustified few. let wrong : known_good (true_facts v f) unjustified.one_may.0 ≡ Some (v unjustified.one_may.0) = known v f unjustified.one_may.0 in let open' : known_good (true_facts v f) unjustified.one_may.0 ≡ None = unjustified.one_may.1.1 in absurd cc,
  )

pub true_facts_are_closed : LinesHold → TrueFactsAreClosed
true_facts_are_closed lines_hold net fault acyclic stuck a v f run differs depth = (free v f, closed lines_hold net fault acyclic stuck a v f run differs depth)

pub detected_have_open_sets : LinesHold → DetectedHaveOpenSets
detected_have_open_sets lines_hold net fault acyclic stuck a (v, (f, (run, (x, (observed, differs))))) depth =
    (true_facts v f, (free v f, closed lines_hold net fault acyclic stuck a v f run (λ same. differs (same x observed)) depth))

pub detected_never_clash : LinesHold → ClosedHasAll → DetectedNeverClash
detected_never_clash lines_hold has_all net fault acyclic stuck a (v, (f, (run, (x, (observed, differs))))) = (
  (has_all net fault (true_facts v f) (closed lines_hold net fault acyclic stuck a v f run (λ same. differs (same x observed)) 0) (free v f)).1,
  λ depth none. none (true_facts v f) (λ y fact e. let wrong : false ≡ true = e in cc) (free v f) (closed lines_hold net fault acyclic stuck a v f run (λ same. differs (same x observed)) depth),
)
