-- A new pattern with the faults that stand under it.
use Rattle.std.proofs.Common.{◌≡◌, ℕ, ◌+◌, ◌<◌, inl, inr, Bool, true, false, IsTrue, Option, None, Some, List, [], ◌∷◌, ◌++◌, length, sym, ◌∙◌, ap, subst, arith}
use Rattle.std.specs.Prelude.{slice_get}
use Rattle.std.proofs.lemmas.Bool.{cases_eq}
use Rattle.std.proofs.lemmas.List.{length-append}
use Rattle.std.proofs.lemmas.Option.{slice_get_within}
use Rattle.rm_base.specs.declared.numbers.Fault.{Fault}
use Rattle.rm_base.proofs.Public.{front_stands, last_stands, pushed_stands, some_is}
use Rattle.gate_net.specs.Net.{Net, source_count}
use Rattle.gate_net.specs.Values.{Detects}
use Rattle.gate_net.specs.Faults.{IsTest}
use Rattle.fault_sim.specs.Words.{assignment, lane}
use Rattle.test_patterns.specs.TestSets.{IsFirst, IsPattern}
use Rattle.test_patterns.specs.Inner.Drafts.{HasFewer, IsDone, IsDraft, IsExtended, IsOpen}
use Rattle.test_patterns.specs.Inner.Groups.{AreGathered, AreMarked, IsCaught, IsLaneOf, IsTaken}
use Rattle.test_patterns.specs.declared.gathering.Caught.{Caught}

-- fewer are opened
pub open_before : (numbers old new : List (Option ℕ)) (j : ℕ) → HasFewer old new → IsOpen numbers new j → IsOpen numbers old j
open_before numbers old new j f o = record { number = o.number; known = o.known; none = f.fewer j o.none }

pub gathered_fewer : (net : Net) (faults : List Fault) (numbers old new : List (Option ℕ)) (words : List ℕ) (caught : List Caught) → HasFewer old new → AreGathered net faults numbers old words caught → AreGathered net faults numbers new words caught
gathered_fewer net faults numbers old new words caught f g = record { each = g.each; all = λ j fault opened is. g.all j fault (open_before numbers old new j f opened) is }

module _ (net : Net) (faults : List Fault) (vectors : List (List Bool)) (numbers : List (Option ℕ)) (patterns : List ℕ) (old new : List (Option ℕ)) (words : List ℕ) (caught : List Caught) (i number : ℕ) (vector : List Bool) (any : Bool)
    (few : i < 64) (draft : IsDraft net faults vectors numbers patterns old) (gathered : AreGathered net faults numbers old words caught) (of : IsLaneOf words i vector)
    (size : length vector ≡ source_count net) (there : slice_get vectors number ≡ Some vector) (marked : AreMarked caught (length caught) i (length patterns) old new any) where
  fewer : HasFewer old new
  fewer = record {
    size = marked.size;
    fewer = λ j none. elim (marked.each j) [
      | inl e ↦ sym e ∙ none
      | inr (was, rest) ↦ was
    ];
  }

  -- what the lane detects, the vector does
  lane_test : (fault : Fault) (word : ℕ) → ((k : ℕ) → k < 64 → (IsTrue (lane k word) → Detects net fault (assignment words k)) × (Detects net fault (assignment words k) → IsTrue (lane k word))) → IsTrue (lane i word) → IsTest net fault vector
  lane_test fault word says on = record { size = size; detects = subst (Detects net fault) of.same ((says i few).0 on) }

  test_lane : (fault : Fault) (word : ℕ) → ((k : ℕ) → k < 64 → (IsTrue (lane k word) → Detects net fault (assignment words k)) × (Detects net fault (assignment words k) → IsTrue (lane k word))) → IsTest net fault vector → IsTrue (lane i word)
  test_lane fault word says test = (says i few).1 (subst (Detects net fault) (sym of.same) test.detects)

  same_fault : (j : ℕ) (f g : Fault) → slice_get faults j ≡ Some f → slice_get faults j ≡ Some g → f ≡ g
  same_fault j f g e h = some_is f g (sym e ∙ h)

  done : IsDone net faults numbers new vector
  done j fault opened is test = elim (gathered.all j fault (open_before numbers old new j fewer opened) is) [
    | inl among ↦
        let c : IsCaught net faults numbers words among.one = gathered.each among.place among.one among.there in
        let same : fault ≡ c.fault = same_fault j fault c.fault is (ap (slice_get faults) (sym among.at_is) ∙ c.fault_is) in
        let on : IsTrue (lane i among.one.lanes) = test_lane c.fault among.one.lanes c.says (subst (λ (f : Fault). IsTest net f vector) same test) in
        marked.all j (record { place = among.place; one = among.one; early = slice_get_within caught among.place among.one among.there; there = among.there; at_is = among.at_is; detects = on }) opened.none
    | inr missed ↦ missed i few (subst (Detects net fault) (sym of.same) test.detects)
  ]

  pub extended_none : any ≡ false → IsExtended net faults vectors numbers patterns old new vector
  extended_none e = record { draft = subst (IsDraft net faults vectors numbers patterns) (sym (marked.none e)) draft; fewer = fewer; done = done }

  abbrev pub more : List ℕ
  more = patterns ++ number ∷ []

  longer : length more ≡ length patterns + 1
  longer = length-append patterns (number ∷ [])

  -- a pattern before the new one
  pattern_before : (k : ℕ) (other : List Bool) → k < length patterns → IsPattern vectors more k other → IsPattern vectors patterns k other
  pattern_before k other lt (n, (at, is)) = elim (pushed_stands patterns number k n at) [
    | inl old ↦ (n, (old, is))
    | inr new ↦ absurd (omega (arith, lt, new.0))
  ]

  pattern_stays : (k : ℕ) (other : List Bool) → IsPattern vectors patterns k other → IsPattern vectors more k other
  pattern_stays k other (n, (at, is)) = (n, (front_stands patterns (number ∷ []) k n at, is))

  within : (k : ℕ) (other : List Bool) → IsPattern vectors patterns k other → k < length patterns
  within k other (n, (at, is)) = slice_get_within patterns k n at

  first_stays : (j k : ℕ) → IsFirst net faults vectors patterns j k → IsFirst net faults vectors more j k
  first_stays j k f = record {
    fault = f.fault;
    fault_is = f.fault_is;
    vector = f.vector;
    pattern_is = pattern_stays k f.vector f.pattern_is;
    test = f.test;
    before = λ h other lt pattern test. (let below : k < length patterns = within k f.vector f.pattern_is in f.before h other lt (pattern_before h other (omega (arith, lt, below)) pattern) test);
  }

  caught_at : (j : ℕ) (t : IsTaken caught (length caught) i j) → IsCaught net faults numbers words t.one
  caught_at j t = gathered.each t.place t.one t.there

  first_new : (j : ℕ) → slice_get old j ≡ Some None → IsTaken caught (length caught) i j → IsFirst net faults vectors more j (length patterns)
  first_new j none t =
      let c = caught_at j t in
      let fault_is : slice_get faults j ≡ Some c.fault = ap (slice_get faults) (sym t.at_is) ∙ c.fault_is in
      let known : slice_get numbers j ≡ Some (Some c.number) = ap (slice_get numbers) (sym t.at_is) ∙ c.known in
      record {
        fault = c.fault;
        fault_is = fault_is;
        vector = vector;
        pattern_is = (number, (last_stands patterns number, there));
        test = lane_test c.fault t.one.lanes c.says t.detects;
        before = λ k other lt pattern test. draft.done k other (pattern_before k other lt pattern) j c.fault (record { number = c.number; known = known; none = none }) fault_is test;
      }

  some_number : (j a b : ℕ) → slice_get new j ≡ Some (Some a) → slice_get new j ≡ Some (Some b) → a ≡ b
  some_number j a b e h = some_is a b (some_is (Some a) (Some b) (sym e ∙ h))

  pub extended_some : any ≡ true → IsExtended net faults vectors numbers more old new vector
  extended_some e = record {
    draft = record {
      size = marked.size ∙ draft.size;
      first = λ j k is. elim (marked.each j) [
        | inl same ↦ first_stays j k (draft.first j k (sym same ∙ is))
        | inr (none, (here, taken)) ↦ subst (IsFirst net faults vectors more j) (some_number j (length patterns) k here is) (first_new j none taken)
      ];
      known = λ j k is. elim (marked.each j) [
        | inl same ↦ draft.known j k (sym same ∙ is)
        | inr (none, (here, taken)) ↦ (let c = caught_at j taken in (c.number, ap (slice_get numbers) (sym taken.at_is) ∙ c.known))
      ];
      done = λ k other pattern j fault opened is test. elim (pushed_stands patterns number k pattern.0 pattern.1.0) [
        | inl before ↦ draft.done k other (pattern.0, (before, pattern.1.1)) j fault (open_before numbers old new j fewer opened) is test
        | inr last ↦
            let same : vector ≡ other = some_is vector other (sym there ∙ ap (slice_get vectors) (sym last.1) ∙ pattern.1.1) in
            done j fault opened is (subst (IsTest net fault) (sym same) test)
      ];
      used = λ k lt. elim (cases_eq k (length patterns)) [
        | inl same ↦ (let s = marked.some e in (s.0, s.1 ∙ ap (λ (n : ℕ). Some (Some n)) (sym same)))
        | inr other ↦ stays k (draft.used k (omega (arith, lt, other, longer)))
      ];
    };
    fewer = fewer;
    done = done;
  }
    where
      stays : (k : ℕ) → (j : ℕ) × (slice_get old j ≡ Some (Some k)) → (j : ℕ) × (slice_get new j ≡ Some (Some k))
      stays k (j, is) = elim (marked.each j) [
        | inl same ↦ (j, same ∙ is)
        | inr (none, rest) ↦ absurd (let bad : Some None ≡ Some (Some k) = sym none ∙ is in cc)
      ]
