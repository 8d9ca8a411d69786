-- From the tests of a net to those of its model, and from an accepted journal to its verdicts.
use Rattle.std.proofs.Common.{◌≡◌, ℕ, zero, suc, ◌<◌, ◌⊎◌, inl, inr, Bool, Option, None, Some, List, [], ◌∷◌, ◌++◌, length, refl, sym, ◌∙◌, ap, subst, arith}
use Rattle.std.specs.Prelude.{slice_get, slice_index_or}
use Rattle.std.proofs.lemmas.List.{length-map}
use Rattle.std.proofs.lemmas.Option.{get_or_from_slice_get, slice_get_within}
use Rattle.rm_base.specs.declared.numbers.Fault.{Fault}
use Rattle.rm_base.proofs.Public.{map_at, map_found, some_is, stands_below}
use Rattle.rm_model.specs.declared.parts.Model.{Model}
use Rattle.gate_net.specs.Net.{Net, source_count}
use Rattle.gate_net.specs.Faults.{IsTest, assigned, faults_of}
use Rattle.wire_edit.specs.Steps.{stepped}
use Rattle.model_faults.specs.Laws.{ListAlike, VectorsGive}
use Rattle.model_faults.specs.ModelFaults.{ModelFault, faults_of_model}
use Rattle.journal_text.specs.declared.record.Record.{Record}
use Rattle.journal_text.specs.declared.record.Record.TheVariants.{Step, Hit, Spent}
use Rattle.journal_text.specs.Runs.{AcceptedTo}
use Rattle.journal_check.specs.Verdicts.{SettleAll}
use Rattle.journal_audit.specs.Verdicts.{AreVerdictsAt, VerdictList, said_by, said_in, said_of}
use Rattle.test_patterns.specs.TestSets.{AreTests, HasKnown, IsFirst, IsPattern}
use Rattle.pattern_text.specs.Text.{Tests, chosen}
use Rattle.rambo_cli.specs.Tests.{AreTestsOf, IsFirstTest, IsTestOf, StandsBy}
use Rattle.rambo_cli.specs.Inner.Tests.{AcceptedVerdictsTell, VerdictsTell}

-- STEPS SAY NOTHING OF FAULTS
steps_silent : (net last : Net) (steps verdicts : List Record) → AcceptedTo net steps last → said_of (steps ++ verdicts) ≡ said_of verdicts
steps_silent net last [] verdicts a = refl
steps_silent net last (Step step tree ∷ steps) verdicts a = steps_silent (stepped net step) last steps verdicts a.1
steps_silent net last (Hit fault vector ∷ steps) verdicts a = absurd a
steps_silent net last (Spent fault tree ∷ steps) verdicts a = absurd a

-- what is said of the faults, one by one
record SaysOf (net : Net) (faults : List Fault) (said : List (Option (List Bool))) : Type 0 where
  pub size : length said ≡ length faults
  pub tests : (j : ℕ) (vector : List Bool) → slice_get said j ≡ Some (Some vector) → (fault : Fault) × ((slice_get faults j ≡ Some fault) × IsTest net fault vector)

says_of : (net : Net) (budget : ℕ) (faults : List Fault) (verdicts : List Record) → SettleAll net budget faults verdicts → SaysOf net faults (said_of verdicts)
says_of net budget [] [] s = record { size = refl; tests = λ j v e. absurd (cc) }
says_of net budget [] (r ∷ rs) s = absurd s
says_of net budget (f ∷ fs) [] s = absurd s
says_of net budget (f ∷ fs) (Step step tree ∷ rs) s = absurd s.0
says_of net budget (f ∷ fs) (Hit given vector ∷ rs) s = let rest = says_of net budget fs rs s.1 in record { size = ap suc rest.size; tests = λ j v e. at rest j v e }
  where
    at : SaysOf net fs (said_of rs) → (j : ℕ) (v : List Bool) → slice_get (Some vector ∷ said_of rs) j ≡ Some (Some v) → (fault : Fault) × ((slice_get (f ∷ fs) j ≡ Some fault) × IsTest net fault v)
    at rest zero v e = let same : vector ≡ v = some_is vector v (some_is (Some vector) (Some v) e) in (f, (refl, subst (IsTest net f) same s.0.1))
    at rest (suc j) v e = rest.tests j v e
says_of net budget (f ∷ fs) (Spent given tree ∷ rs) s = let rest = says_of net budget fs rs s.1 in record { size = ap suc rest.size; tests = λ j v e. at rest j v e }
  where
    at : SaysOf net fs (said_of rs) → (j : ℕ) (v : List Bool) → slice_get (None ∷ said_of rs) j ≡ Some (Some v) → (fault : Fault) × ((slice_get (f ∷ fs) j ≡ Some fault) × IsTest net fault v)
    at rest zero v e = absurd (let bad : None ≡ Some v = some_is None (Some v) e in cc)
    at rest (suc j) v e = rest.tests j v e

pub verdicts_tell : AcceptedVerdictsTell
verdicts_tell m last v kept l =
    let a = l.accepted in
    let silent : said_of l.records ≡ said_of a.verdicts = ap said_of a.parts ∙ steps_silent _ last a.steps a.verdicts a.leads in
    let says = says_of last l.budget (faults_of last) a.verdicts a.settled in
    let same : said_in v ≡ said_of a.verdicts = l.said ∙ silent in
    record {
      size = sym (length-map v.numbers (said_by v.vectors)) ∙ (ap (λ (xs : List (Option (List Bool))). length xs) same ∙ says.size);
      known = λ j number e.
          let there = stands_below v.vectors number (kept.within j number e) in
          let said : slice_get (said_in v) j ≡ Some (Some there.0) = map_at (said_by v.vectors) v.numbers j (Some number) e ∙ ap (λ (o : Option (List Bool)). Some o) there.1 in
          let test = says.tests j there.0 (sym (ap (λ (xs : List (Option (List Bool))). slice_get xs j) same) ∙ said) in
          record { fault = test.0; fault_is = test.1.0; vector = there.0; vector_is = there.1; test = test.1.1 };
    }

-- THE MODEL'S TESTS
module _ (net : Net) (out : Model) (v : VerdictList) (patterns : List ℕ) (firsts : List (Option ℕ)) (lasts : List Bool) (give : VectorsGive) (alike : ListAlike net out)
    (kept : AreVerdictsAt v.vectors v.numbers) (tell : VerdictsTell net v) (tests : AreTests net (faults_of net) v.vectors v.numbers patterns firsts) where
  abbrev pub made : Tests
  made = record { patterns = chosen v.vectors patterns; firsts = firsts; lasts = lasts }

  chosen_at : (n : ℕ) (vector : List Bool) → slice_get v.vectors n ≡ Some vector → slice_index_or v.vectors n [] ≡ vector
  chosen_at n vector e = get_or_from_slice_get v.vectors n vector [] e

  pattern_there : (i : ℕ) (vector : List Bool) → IsPattern v.vectors patterns i vector → slice_get (chosen v.vectors patterns) i ≡ Some vector
  pattern_there i vector (n, (at, is)) = map_at (λ (k : ℕ). slice_index_or v.vectors k []) patterns i n at ∙ ap (λ (x : List Bool). Some x) (chosen_at n vector is)

  -- each pattern's number is that of a vector, as a fault stands under it
  number_within : (i n : ℕ) → slice_get patterns i ≡ Some n → (vector : List Bool) × (slice_get v.vectors n ≡ Some vector)
  number_within i n at =
      let s = tests.used i (slice_get_within patterns i n at) in
      let first = tests.first s.0 i s.1 in
      let same : first.pattern_is.0 ≡ n = some_is first.pattern_is.0 n (sym first.pattern_is.1.0 ∙ at) in
      (first.vector, ap (slice_get v.vectors) (sym same) ∙ first.pattern_is.1.1)

  there_pattern : (i : ℕ) (vector : List Bool) → slice_get (chosen v.vectors patterns) i ≡ Some vector → IsPattern v.vectors patterns i vector
  there_pattern i vector e =
      let found = map_found (λ (k : ℕ). slice_index_or v.vectors k []) patterns i vector e in
      let w = number_within i found.0 found.1.0 in
      (found.0, (found.1.0, w.1 ∙ ap (λ (x : List Bool). Some x) (sym (chosen_at found.0 w.0 w.1) ∙ found.1.1)))

  to_model : (j : ℕ) (fault : Fault) (own : ModelFault) (vector : List Bool) → slice_get (faults_of net) j ≡ Some fault → slice_get (faults_of_model out) j ≡ Some own → IsTest net fault vector → IsTestOf out own vector
  to_model j fault own vector e h test = (alike.each j fault own e h).to_model (assigned vector) vector test.size (give vector) test.detects

  -- and back, for a vector with a value for each source
  to_net : (j : ℕ) (fault : Fault) (own : ModelFault) (vector : List Bool) → slice_get (faults_of net) j ≡ Some fault → slice_get (faults_of_model out) j ≡ Some own → length vector ≡ source_count net → IsTestOf out own vector → IsTest net fault vector
  to_net j fault own vector e h size test = record { size = size; detects = (alike.each j fault own e h).to_net (assigned vector) vector (give vector) test }

  pattern_size : (i : ℕ) (vector : List Bool) → IsPattern v.vectors patterns i vector → length vector ≡ source_count net
  pattern_size i vector (n, (at, is)) =
      let s = tests.used i (slice_get_within patterns i n at) in
      let first = tests.first s.0 i s.1 in
      let same : first.pattern_is.0 ≡ n = some_is first.pattern_is.0 n (sym first.pattern_is.1.0 ∙ at) in
      let one : first.vector ≡ vector = some_is first.vector vector (sym first.pattern_is.1.1 ∙ ap (slice_get v.vectors) same ∙ is) in
      subst (λ (x : List Bool). length x ≡ source_count net) one first.test.size

  first_test : (j i : ℕ) (own : ModelFault) → slice_get (faults_of_model out) j ≡ Some own → IsFirst net (faults_of net) v.vectors patterns j i → IsFirstTest out made own i
  first_test j i own h f = record {
    pattern = f.vector;
    pattern_is = pattern_there i f.vector f.pattern_is;
    detects = to_model j f.fault own f.vector f.fault_is h f.test;
    before = λ k other lt at test. (let p = there_pattern k other at in f.before k other lt p (to_net j f.fault own other f.fault_is h (pattern_size k other p) test));
  }

  said_size : length (said_in v) ≡ length (faults_of_model out)
  said_size = length-map v.numbers (said_by v.vectors) ∙ (tell.size ∙ sym alike.count)

  stands : (j : ℕ) (own : ModelFault) (verdict : Option (List Bool)) (first : Option ℕ) → slice_get (faults_of_model out) j ≡ Some own → slice_get (said_in v) j ≡ Some verdict → slice_get firsts j ≡ Some first → StandsBy out made own verdict first
  stands j own verdict first h said is =
      let found = map_found (said_by v.vectors) v.numbers j verdict said in go verdict first found.0 found.1.0 found.1.1 is
    where
      go : (verdict : Option (List Bool)) (first x : Option ℕ) → slice_get v.numbers j ≡ Some x → said_by v.vectors x ≡ verdict → slice_get firsts j ≡ Some first → StandsBy out made own verdict first
      go None None x e s i = tt
      go (Some vector) None None e s i = absurd (let bad : None ≡ Some vector = s in cc)
      go (Some vector) None (Some n) e s i = absurd (tests.none j n i e)
      go None (Some k) x e s i =
          let known = tests.known j k i in
          let same : x ≡ Some known.0 = some_is x (Some known.0) (sym e ∙ known.1) in
          let there = stands_below v.vectors known.0 (kept.within j known.0 known.1) in
          absurd (let bad : Some there.0 ≡ None = sym there.1 ∙ (ap (said_by v.vectors) (sym same) ∙ s) in cc)
      go (Some vector) (Some k) None e s i = absurd (let bad : None ≡ Some vector = s in cc)
      go (Some vector) (Some k) (Some n) e s i =
          let known : HasKnown net (faults_of net) v.vectors j n = tell.known j n e in
          let same : known.vector ≡ vector = some_is known.vector vector (sym known.vector_is ∙ s) in
          (subst (IsTestOf out own) same (to_model j known.fault own known.vector known.fault_is h known.test), first_test j k own h (tests.first j k i))

  -- each pattern is the vector of a hit
  of_journal : (i : ℕ) (pattern : List Bool) → slice_get (chosen v.vectors patterns) i ≡ Some pattern → (j : ℕ) × (slice_get (said_in v) j ≡ Some (Some pattern))
  of_journal i pattern e =
      let p = there_pattern i pattern e in
      let s = kept.used p.0 (slice_get_within v.vectors p.0 pattern p.1.1) in
      (s.0, map_at (said_by v.vectors) v.numbers s.0 (Some p.0) s.1 ∙ ap (λ (o : Option (List Bool)). Some o) p.1.1)

  -- the later of two equal patterns would be the first to detect nothing
  never_later : (i k : ℕ) (pattern : List Bool) → k < i → slice_get (chosen v.vectors patterns) i ≡ Some pattern → slice_get (chosen v.vectors patterns) k ≡ Some pattern → ⊥
  never_later i k pattern lt e h =
      let late = there_pattern i pattern e in
      let early = there_pattern k pattern h in
      let s = tests.used i (slice_get_within patterns i late.0 late.1.0) in
      let first = tests.first s.0 i s.1 in
      let number : first.pattern_is.0 ≡ late.0 = some_is first.pattern_is.0 late.0 (sym first.pattern_is.1.0 ∙ late.1.0) in
      let same : first.vector ≡ pattern = some_is first.vector pattern (sym first.pattern_is.1.1 ∙ ap (slice_get v.vectors) number ∙ late.1.1) in
      first.before k pattern lt early (subst (IsTest net first.fault) same first.test)

  different : (i k : ℕ) (pattern : List Bool) → slice_get (chosen v.vectors patterns) i ≡ Some pattern → slice_get (chosen v.vectors patterns) k ≡ Some pattern → i ≡ k
  different i k pattern e h = elim (trichotomy i k) [
    | inl lt ↦ absurd (never_later k i pattern lt h e)
    | inr other ↦ elim other [ inl same ↦ same | inr gt ↦ absurd (never_later i k pattern gt e h) ]
  ]
    where
      trichotomy : (a b : ℕ) → (a < b) ⊎ ((a ≡ b) ⊎ (b < a))
      trichotomy zero zero = inr (inl refl)
      trichotomy zero (suc b) = inl (omega arith)
      trichotomy (suc a) zero = inr (inr (omega arith))
      trichotomy (suc a) (suc b) = elim (trichotomy a b) [
        | inl lt ↦ inl (omega (arith, lt))
        | inr other ↦ elim other [ inl same ↦ inr (inl (ap suc same)) | inr gt ↦ inr (inr (omega (arith, gt))) ]
      ]

  pub model_tests : AreTestsOf out (said_in v) made
  model_tests = record {
    said_each = said_size;
    lines_each = tests.size ∙ sym alike.count;
    stands = stands;
    used = λ i lt. tests.used i (subst (λ (n : ℕ). i < n) (length-map patterns (λ (k : ℕ). slice_index_or v.vectors k [])) lt);
    of_journal = of_journal;
    different = different;
  }
