-- From no pattern to all.
use Rattle.std.proofs.Common.{◌≡◌, ℕ, ◌+◌, ◌<◌, inl, inr, Bool, Option, None, Some, List, [], ◌∷◌, ◌++◌, length, map, Result, Ok, Err, OnOk, refl, sym, ◌∙◌, ap, subst, arith}
use Rattle.std.specs.Prelude.{slice_get}
use Rattle.std.proofs.lemmas.Bool.{cases_eq}
use Rattle.std.proofs.lemmas.Option.{slice_get_within}
use Rattle.std.proofs.lemmas.List.{length-map}
use Rattle.fault_sim.specs.Words.{assignment}
use Rattle.test_patterns.specs.Inner.Groups.{IsLaneOf, bit_word}
use Rattle.test_patterns.proofs.Lanes.{first_lane}
use Rattle.rm_base.specs.declared.numbers.Fault.{Fault}
use Rattle.rm_base.proofs.Public.{pushed_stands, some_is}
use Rattle.gate_net.specs.Net.{Net}
use Rattle.gate_net.specs.Faults.{IsTest}
use Rattle.test_patterns.specs.TestSets.{AreTests, HasKnown}
use Rattle.test_patterns.specs.Inner.Drafts.{AreEmpty, HasFewer, IsDraft, IsExtended, IsOpen}

pub empty_none : AreEmpty []
empty_none j i e = cc

pub empty_more : (firsts : List (Option ℕ)) → AreEmpty firsts → AreEmpty (firsts ++ None ∷ [])
empty_more firsts empty j i e = elim (pushed_stands firsts None j (Some i) e) [
  | inl before ↦ empty j i before
  | inr last ↦ (let bad : Some i ≡ None = last.1 in cc)
]

pub no_patterns : (net : Net) (faults : List Fault) (vectors : List (List Bool)) (numbers : List (Option ℕ)) (firsts : List (Option ℕ)) → length firsts ≡ length faults → AreEmpty firsts → IsDraft net faults vectors numbers [] firsts
no_patterns net faults vectors numbers firsts size empty = record {
  size = size;
  first = λ j k e. absurd (empty j k e);
  known = λ j k e. absurd (empty j k e);
  done = λ k vector pattern j fault opened is test. (let bad : slice_get [] k ≡ Some pattern.0 = pattern.1.0 in cc);
  used = λ k lt. absurd (omega (arith, lt));
}

-- no fault before a place is opened
abbrev pub NoneOpenBefore : List (Option ℕ) → List (Option ℕ) → ℕ → Type 0
NoneOpenBefore numbers firsts count = (j : ℕ) → j < count → IsOpen numbers firsts j → ⊥

pub none_open_fewer : (numbers old new : List (Option ℕ)) (count : ℕ) → HasFewer old new → NoneOpenBefore numbers old count → NoneOpenBefore numbers new count
none_open_fewer numbers old new count f none j lt opened = none j lt (record { number = opened.number; known = opened.known; none = f.fewer j opened.none })

pub none_open_next : (numbers firsts : List (Option ℕ)) (count : ℕ) → NoneOpenBefore numbers firsts count → (IsOpen numbers firsts count → ⊥) → NoneOpenBefore numbers firsts (count + 1)
none_open_next numbers firsts count none here j lt opened = elim (cases_eq j count) [
  | inl same ↦ here (subst (IsOpen numbers firsts) same opened)
  | inr other ↦ none j (omega (arith, lt, other)) opened
]

-- a fault whose vector was added is opened no more
pub closed : (net : Net) (faults : List Fault) (vectors : List (List Bool)) (numbers : List (Option ℕ)) (patterns : List ℕ) (old new : List (Option ℕ)) (vector : List Bool) (j number : ℕ)
    → IsExtended net faults vectors numbers patterns old new vector → HasKnown net faults vectors j number → slice_get vectors number ≡ Some vector → IsOpen numbers new j → ⊥
closed net faults vectors numbers patterns old new vector j number x known is opened =
    let same : known.vector ≡ vector = some_is known.vector vector (sym known.vector_is ∙ is) in
    x.done j known.fault opened known.fault_is (subst (IsTest net known.fault) same known.test)

-- where none is opened, the patterns are tests
pub tests_of : (net : Net) (faults : List Fault) (vectors : List (List Bool)) (numbers : List (Option ℕ)) (patterns : List ℕ) (firsts : List (Option ℕ)) → IsDraft net faults vectors numbers patterns firsts → NoneOpenBefore numbers firsts (length numbers)
    → AreTests net faults vectors numbers patterns firsts
tests_of net faults vectors numbers patterns firsts d none = record {
  size = d.size;
  first = d.first;
  known = d.known;
  none = λ j number empty known. none j (slice_get_within numbers j (Some number) known) (record { number = number; known = known; none = empty });
  used = d.used;
}

pub on_ok : {V E P Q : Type 0} (r : Result V E) → (P → Q) → OnOk r P → OnOk r Q
on_ok (Ok v) f p = f p
on_ok (Err e) f p = tt

pub alone_lane : (words : List ℕ) (vector : List Bool) → words ≡ map bit_word vector → IsLaneOf words 0 vector
alone_lane words vector e = record {
  size = sym (ap (λ (ws : List ℕ). length ws) e ∙ length-map vector bit_word);
  same = ap (λ (ws : List ℕ). assignment ws 0) e ∙ first_lane vector;
}

pub fewer_more : (first second third : List (Option ℕ)) → HasFewer first second → HasFewer second third → HasFewer first third
fewer_more first second third f g = record { size = g.size ∙ f.size; fewer = λ j e. f.fewer j (g.fewer j e) }

pub fewer_same : (firsts : List (Option ℕ)) → HasFewer firsts firsts
fewer_same firsts = record { size = refl; fewer = λ j e. e }
