-- A closed set has all to which lines lead.
use Rattle.std.proofs.Common.{Bool, List, Some, [], false, inl, inr, not, refl, true, ℕ, ◌&&◌, ◌∷◌, ◌≡◌, ◌⊎◌}
use Rattle.std.proofs.lemmas.Bool.{and_parts, eq-eqb, eqb-true, or_cases}
use Rattle.std.specs.Prelude.{IsTrue, nat_eq}
use Rattle.std.proofs.Math.Bool.{or-true}
use Rattle.gate_net.proofs.Public.{same_bool_refl, same_bool_true}
use Rattle.gate_net.specs.Net.{Net}
use Rattle.gate_net.specs.Values.{same_bool}
use Rattle.refutation.proofs.Grows.{line_grows}
use Rattle.refutation.proofs.Known.{same_fact_true}
use Rattle.refutation.specs.Closing.{IsClashFree, IsClosedUnderLines, IsWithin, LinesLead}
use Rattle.refutation.specs.Facts.{AreOpposed, AreTrueFacts, Held, IsTrueFact, known_good, none_held, one_of, same_fact, with_fact}
use Rattle.refutation.specs.Laws.{ClosedHasAll}
use Rattle.refutation.specs.declared.reasoning.Fact.{Fact}
use Rattle.refutation.specs.declared.reasoning.Fact.TheVariants.{Differs, Equal, Faulty, Good}
use Rattle.refutation.specs.declared.reasoning.Line.{Line}
use Rattle.rm_base.specs.declared.numbers.Fault.{Fault}

pub same_fact_refl : (fact : Fact) → same_fact fact fact ≡ true
same_fact_refl (Good b) = same_bool_refl b
same_fact_refl (Faulty b) = same_bool_refl b
same_fact_refl Equal = refl
same_fact_refl Differs = refl

pub with_there : (held : Held) (x : ℕ) (fact : Fact) → with_fact held x fact x fact ≡ true
with_there held x fact = rw (eq-eqb x x refl, same_fact_refl fact) refl

pub with_more : (held : Held) (x : ℕ) (fact : Fact) → IsWithin held (with_fact held x fact)
with_more held x fact y other e = rw e (or-true (nat_eq y x && same_fact other fact))

pub with_cases : (held : Held) (x : ℕ) (fact : Fact) (y : ℕ) (other : Fact) → IsTrue (with_fact held x fact y other) → ((y ≡ x) × (other ≡ fact)) ⊎ IsTrue (held y other)
with_cases held x fact y other e = elim (or_cases (nat_eq y x && same_fact other fact) (held y other) e) [
  | inr before ↦ inr before
  | inl new ↦ let both : (nat_eq y x ≡ true) × (same_fact other fact ≡ true) = and_parts (nat_eq y x) (same_fact other fact) new in inl (eqb-true y x both.0, same_fact_true other fact both.1)
]

pub with_within : (held s : Held) (x : ℕ) (fact : Fact) → IsWithin held s → IsTrue (s x fact) → IsWithin (with_fact held x fact) s
with_within held s x fact within there y other e = elim (with_cases held x fact y other e) [
  | inl new ↦ rw (new.0, new.1) there
  | inr before ↦ within y other before
]

pub opposed_within : (held s : Held) → IsWithin held s → (x : ℕ) → AreOpposed held x → AreOpposed s x
opposed_within held s within x h = elim h [
  | inl good ↦ inl (within x (Good false) good.0, within x (Good true) good.1)
  | inr other ↦ elim other [
    | inl faulty ↦ inr (inl (within x (Faulty false) faulty.0, within x (Faulty true) faulty.1))
    | inr equal ↦ inr (inr (within x Equal equal.0, within x Differs equal.1))
  ]
]

-- a closed set without a clash has all to which lines lead
pub leads_within : (net : Net) (fault : Fault) (s : Held) → IsClashFree s → IsClosedUnderLines net fault s → (lines : List Line) (held after : Held) → IsWithin held s → LinesLead net fault held lines after → IsWithin after s
leads_within net fault s free closed [] held after within e = rw e within
leads_within net fault s free closed (l ∷ lines) held after within (x, (fact, (concludes, rest))) =
    leads_within net fault s free closed lines (with_fact held x fact) after
    (with_within held s x fact within (closed l x fact (line_grows net fault held s within free l x fact concludes))) rest

pub none_within : (s : Held) → IsWithin none_held s
none_within s x fact e = cc

pub closed_has_all : ClosedHasAll
closed_has_all net fault held closed free = (
  λ x fact (lines, (after, (leads, there))). leads_within net fault held free closed lines none_held after (none_within held) leads x fact there,
  λ (lines, (after, (leads, (x, opposed)))). free x (opposed_within after held (leads_within net fault held free closed lines none_held after (none_within held) leads) x opposed),
)

-- FACTS THAT ARE TRUE
abbrev pub true_held : (ℕ → Bool) → (ℕ → Bool) → Held
true_held v f x (Good b) = same_bool (v x) b
true_held v f x (Faulty b) = same_bool (f x) b
true_held v f x Equal = same_bool (v x) (f x)
true_held v f x Differs = same_bool (v x) (not (f x))

pub true_right : (v f : ℕ → Bool) → AreTrueFacts v f (true_held v f)
true_right v f x (Good b) e = same_bool_true (v x) b e
true_right v f x (Faulty b) e = same_bool_true (f x) b e
true_right v f x Equal e = same_bool_true (v x) (f x) e
true_right v f x Differs e = same_bool_true (v x) (not (f x)) e

pub right_true : (v f : ℕ → Bool) (x : ℕ) (fact : Fact) → IsTrueFact v f x fact → IsTrue (true_held v f x fact)
right_true v f x (Good b) e = rw e (same_bool_refl b)
right_true v f x (Faulty b) e = rw e (same_bool_refl b)
right_true v f x Equal e = rw e (same_bool_refl (f x))
right_true v f x Differs e = rw e (same_bool_refl (not (f x)))

-- each good value is known
pub true_known : (v f : ℕ → Bool) (x : ℕ) → known_good (true_held v f) x ≡ Some (v x)
true_known v f x = at (v x)
  where
    at : (b : Bool) → one_of (same_bool b false) (same_bool b true) ≡ Some b
    at true = refl
    at false = refl
