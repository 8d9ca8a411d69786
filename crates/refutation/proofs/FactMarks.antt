-- What marks hold after a change.
use Rattle.std.proofs.Common.{Bool, List, [], ap, arith, false, get_or, inl, inr, length, length-set, not, refl, replicate, suc, true, zero, ℕ, ◌&&◌, ◌<◌, ◌||◌, ◌∙◌, ◌∷◌, ◌≡◌}
use Rattle.std.proofs.Math.Dec.{eqb-suc-suc, eqb-suc-zero, eqb-zero-suc}
use Rattle.std.proofs.lemmas.Bool.Decides.{eqb_tells}
use Rattle.std.specs.Prelude.{if◌then◌else◌, nat_eq, slice_set}
use Rattle.std.proofs.Math.Bool.{or-true}
use Rattle.std.proofs.lemmas.Bool.{and_parts, or_cases}
use Rattle.refutation.specs.FactSets.{Becomes, held_by, is_marked, missing, unmarked}
use Rattle.refutation.specs.Inner.FactSets.{marked}
use Rattle.refutation.specs.Facts.{AreOpposed, Held, same_fact, with_fact, without_fact}
use Rattle.refutation.specs.declared.held.NodeFacts.{NodeFacts}
use Rattle.refutation.specs.declared.reasoning.Fact.{Fact}
use Rattle.refutation.specs.declared.reasoning.Fact.TheVariants.{Differs, Equal, Faulty, Good}

is_marked-marked : (m : NodeFacts) (fact other : Fact) (b : Bool) → is_marked (marked m fact b) other ≡ (if same_fact other fact then b else is_marked m other)
is_marked-marked m (Good false) (Good false) b = refl
is_marked-marked m (Good false) (Good true) b = refl
is_marked-marked m (Good false) (Faulty false) b = refl
is_marked-marked m (Good false) (Faulty true) b = refl
is_marked-marked m (Good false) Equal b = refl
is_marked-marked m (Good false) Differs b = refl
is_marked-marked m (Good true) (Good false) b = refl
is_marked-marked m (Good true) (Good true) b = refl
is_marked-marked m (Good true) (Faulty false) b = refl
is_marked-marked m (Good true) (Faulty true) b = refl
is_marked-marked m (Good true) Equal b = refl
is_marked-marked m (Good true) Differs b = refl
is_marked-marked m (Faulty false) (Good false) b = refl
is_marked-marked m (Faulty false) (Good true) b = refl
is_marked-marked m (Faulty false) (Faulty false) b = refl
is_marked-marked m (Faulty false) (Faulty true) b = refl
is_marked-marked m (Faulty false) Equal b = refl
is_marked-marked m (Faulty false) Differs b = refl
is_marked-marked m (Faulty true) (Good false) b = refl
is_marked-marked m (Faulty true) (Good true) b = refl
is_marked-marked m (Faulty true) (Faulty false) b = refl
is_marked-marked m (Faulty true) (Faulty true) b = refl
is_marked-marked m (Faulty true) Equal b = refl
is_marked-marked m (Faulty true) Differs b = refl
is_marked-marked m Equal (Good false) b = refl
is_marked-marked m Equal (Good true) b = refl
is_marked-marked m Equal (Faulty false) b = refl
is_marked-marked m Equal (Faulty true) b = refl
is_marked-marked m Equal Equal b = refl
is_marked-marked m Equal Differs b = refl
is_marked-marked m Differs (Good false) b = refl
is_marked-marked m Differs (Good true) b = refl
is_marked-marked m Differs (Faulty false) b = refl
is_marked-marked m Differs (Faulty true) b = refl
is_marked-marked m Differs Equal b = refl
is_marked-marked m Differs Differs b = refl

pub held_read : (marks : List NodeFacts) (x : ℕ) (r : NodeFacts) (fact : Fact) → x < length marks → is_marked (get_or marks x r) fact ≡ held_by marks x fact
held_read [] x r fact h = absurd (omega arith)
held_read (m ∷ marks) zero r fact h = refl
held_read (m ∷ marks) (suc x) r fact h = held_read marks x r fact (omega arith)

held_set : (marks : List NodeFacts) (x : ℕ) (m : NodeFacts) (y : ℕ) (fact : Fact) → x < length marks → held_by (slice_set marks x m) y fact ≡ (if nat_eq y x then is_marked m fact else held_by marks y fact)
held_set [] x m y fact h = absurd (omega arith)
held_set (n ∷ marks) zero m zero fact h = refl
held_set (n ∷ marks) zero m (suc y) fact h = rw (eqb-suc-zero y) refl
held_set (n ∷ marks) (suc x) m zero fact h = rw (eqb-zero-suc x) refl
held_set (n ∷ marks) (suc x) m (suc y) fact h = rw (eqb-suc-suc y x) (held_set marks x m y fact (omega arith))

tests_on : (t u old : Bool) → (if t then (if u then true else old) else old) ≡ ((t && u) || old)
tests_on true true old = refl
tests_on true false old = refl
tests_on false u old = refl

tests_off : (t u old : Bool) → (if t then (if u then false else old) else old) ≡ (not (t && u) && old)
tests_off true true old = refl
tests_off true false old = refl
tests_off false u old = refl

-- the mark of one node is written
written : (marks : List NodeFacts) (x : ℕ) (r : NodeFacts) (fact : Fact) (b : Bool) → x < length marks → (y : ℕ) (other : Fact) → held_by (slice_set marks x (marked (get_or marks x r) fact b)) y other ≡ (if nat_eq y x then (if same_fact other fact then b else held_by marks y other) else held_by marks y other)
written marks x r fact b h y other = elim (eqb_tells y x) [
  | inl t ↦ held_set marks x (marked (get_or marks x r) fact b) y other h ∙ rw (t.0, t.1) (is_marked-marked (get_or marks x r) fact other b ∙ ap (λ old. if same_fact other fact then b else old) (held_read marks x r other h))
  | inr t ↦ held_set marks x (marked (get_or marks x r) fact b) y other h ∙ rw t.0 refl
]

pub inserted : (marks : List NodeFacts) (x : ℕ) (r : NodeFacts) (fact : Fact) → x < length marks → Becomes marks (slice_set marks x (marked (get_or marks x r) fact true)) (with_fact (held_by marks) x fact)
inserted marks x r fact h = record {
  facts = λ y other. written marks x r fact true h y other ∙ tests_on (nat_eq y x) (same_fact other fact) (held_by marks y other);
  size = length-set marks x (marked (get_or marks x r) fact true);
}

pub removed : (marks : List NodeFacts) (x : ℕ) (r : NodeFacts) (fact : Fact) → x < length marks → Becomes marks (slice_set marks x (marked (get_or marks x r) fact false)) (without_fact (held_by marks) x fact)
removed marks x r fact h = record {
  facts = λ y other. written marks x r fact false h y other ∙ tests_off (nat_eq y x) (same_fact other fact) (held_by marks y other);
  size = length-set marks x (marked (get_or marks x r) fact false);
}

marked_less : (m : NodeFacts) (fact : Fact) → is_marked m fact ≡ false → suc (unmarked (marked m fact true)) ≡ unmarked m
marked_less m (Good false) e = rw e (omega arith)
marked_less m (Good true) e = rw e (omega arith)
marked_less m (Faulty false) e = rw e (omega arith)
marked_less m (Faulty true) e = rw e (omega arith)
marked_less m Equal e = rw e (omega arith)
marked_less m Differs e = rw e (omega arith)

set_less : (marks : List NodeFacts) (x : ℕ) (r : NodeFacts) (fact : Fact) → x < length marks → held_by marks x fact ≡ false → suc (missing (slice_set marks x (marked (get_or marks x r) fact true))) ≡ missing marks
set_less [] x r fact h e = absurd (omega arith)
set_less (m ∷ marks) zero r fact h e = let less : suc (unmarked (marked m fact true)) ≡ unmarked m = marked_less m fact e in omega arith
set_less (m ∷ marks) (suc x) r fact h e = let less : suc (missing (slice_set marks x (marked (get_or marks x r) fact true))) ≡ missing marks = set_less marks x r fact (omega arith) e in omega arith

pub insert_less : (marks : List NodeFacts) (x : ℕ) (r : NodeFacts) (fact : Fact) → x < length marks → held_by marks x fact ≡ false → suc (missing (slice_set marks x (marked (get_or marks x r) fact true))) ≡ missing marks
insert_less marks x r fact h e = set_less marks x r fact h e

pub none_in : (n : ℕ) (m : NodeFacts) → ((fact : Fact) → is_marked m fact ≡ false) → (x : ℕ) (fact : Fact) → held_by (replicate n m) x fact ≡ false
none_in zero m h x fact = refl
none_in (suc n) m h zero fact = h fact
none_in (suc n) m h (suc x) fact = none_in n m h x fact

pub none_marked : (fact : Fact) → is_marked (record { good_is_0 = false; good_is_1 = false; faulty_is_0 = false; faulty_is_1 = false; equal = false; differs = false }) fact ≡ false
none_marked (Good false) = refl
none_marked (Good true) = refl
none_marked (Faulty false) = refl
none_marked (Faulty true) = refl
none_marked Equal = refl
none_marked Differs = refl

abbrev pub none : NodeFacts
none = record { good_is_0 = false; good_is_1 = false; faulty_is_0 = false; faulty_is_1 = false; equal = false; differs = false }

pub opposed_from : (held : Held) (x : ℕ) → ((held x (Good false) && held x (Good true)) || ((held x (Faulty false) && held x (Faulty true)) || (held x Equal && held x Differs))) ≡ true → AreOpposed held x
opposed_from held x e = elim (or_cases (held x (Good false) && held x (Good true)) ((held x (Faulty false) && held x (Faulty true)) || (held x Equal && held x Differs)) e) [
  | inl good ↦ inl (and_parts (held x (Good false)) (held x (Good true)) good)
  | inr other ↦ elim (or_cases (held x (Faulty false) && held x (Faulty true)) (held x Equal && held x Differs) other) [
    | inl faulty ↦ inr (inl (and_parts (held x (Faulty false)) (held x (Faulty true)) faulty))
    | inr equal ↦ inr (inr (and_parts (held x Equal) (held x Differs) equal))
  ]
]

pub opposed_test : (held : Held) (x : ℕ) → AreOpposed held x → ((held x (Good false) && held x (Good true)) || ((held x (Faulty false) && held x (Faulty true)) || (held x Equal && held x Differs))) ≡ true
opposed_test held x h = elim h [
  | inl good ↦ rw (good.0, good.1) refl
  | inr other ↦ elim other [
    | inl faulty ↦ rw (faulty.0, faulty.1) (or-true (held x (Good false) && held x (Good true)))
    | inr equal ↦ rw (equal.0, equal.1, or-true (held x (Faulty false) && held x (Faulty true))) (or-true (held x (Good false) && held x (Good true)))
  ]
]
