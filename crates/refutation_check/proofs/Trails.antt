-- Facts that come and are taken back.
use Rattle.std.proofs.Common.{Bool, List, [], ap, arith, false, inl, inr, length, length-append, not, refl, sym, take, true, ℕ, ◌&&◌, ◌++◌, ◌+◌, ◌<◌, ◌≤◌, ◌||◌, ◌∙◌, ◌∷◌, ◌≡◌}
use Rattle.std.proofs.lemmas.Bool.Decides.{eqb_tells}
use Rattle.std.specs.Prelude.{nat_eq}
use Rattle.std.proofs.lemmas.List.{take-append-le}
use Rattle.std.proofs.lemmas.Bool.{and_parts}
use mathlib.Core.Path.{fun_ext}
use Rattle.refutation.specs.FactSets.{Becomes, held_by}
use Rattle.refutation.specs.Facts.{Held, none_held, same_fact, with_fact, without_fact}
use Rattle.refutation.proofs.Public.{same_fact_true}
use Rattle.refutation.specs.declared.held.NodeFacts.{NodeFacts}
use Rattle.refutation.specs.declared.reasoning.Fact.{Fact}
use Rattle.refutation_check.specs.Inner.Notes.{AreNew, IsTrail, held_from, held_of}
use Rattle.refutation_check.specs.declared.trail.HeldFact.{HeldFact}

pub held_from-push : (held : Held) (t : List HeldFact) (e : HeldFact) → held_from held (t ++ e ∷ []) ≡ with_fact (held_from held t) e.node.0 e.fact
held_from-push held [] e = refl
held_from-push held (x ∷ t) e = held_from-push (with_fact held x.node.0 x.fact) t e

pub held_of-push : (t : List HeldFact) (e : HeldFact) → held_of (t ++ e ∷ []) ≡ with_fact (held_of t) e.node.0 e.fact
held_of-push t e = held_from-push none_held t e

-- a fact that is held already changes nothing
pub held_same : (held : Held) (x : ℕ) (fact : Fact) → held x fact ≡ true → with_fact held x fact ≡ held
held_same held x fact h = fun_ext (λ y. fun_ext (λ other. at y other (nat_eq y x && same_fact other fact) refl))
  where
    at : (y : ℕ) (other : Fact) (b : Bool) → (nat_eq y x && same_fact other fact) ≡ b → with_fact held x fact y other ≡ held y other
    at y other false e = rw e refl
    at y other true e = elim (eqb_tells y x) [
      | inl t ↦ rw (e, t.1, same_fact_true other fact (and_parts (nat_eq y x) (same_fact other fact) e).1) (sym h)
      | inr t ↦ let is : nat_eq y x ≡ true = (and_parts (nat_eq y x) (same_fact other fact) e).0 in let isn't : nat_eq y x ≡ false = t.0 in cc
    ]

-- a fact that wasn't held is taken back
without_with : (held : Held) (x : ℕ) (fact : Fact) → held x fact ≡ false → (y : ℕ) (other : Fact) → without_fact (with_fact held x fact) x fact y other ≡ held y other
without_with held x fact h y other = at (nat_eq y x && same_fact other fact) refl
  where
    at : (b : Bool) → (nat_eq y x && same_fact other fact) ≡ b → without_fact (with_fact held x fact) x fact y other ≡ held y other
    at false e = rw e refl
    at true e = elim (eqb_tells y x) [
      | inl t ↦ rw (e, t.1, same_fact_true other fact (and_parts (nat_eq y x) (same_fact other fact) e).1) (sym h)
      | inr t ↦ let is : nat_eq y x ≡ true = (and_parts (nat_eq y x) (same_fact other fact) e).0 in let isn't : nat_eq y x ≡ false = t.0 in cc
    ]

new_push : (n : ℕ) (held : Held) (t : List HeldFact) (e : HeldFact) → AreNew n held t → e.node.0 < n → held_from held t e.node.0 e.fact ≡ false → AreNew n held (t ++ e ∷ [])
new_push n held [] e all h f = (h, (f, tt))
new_push n held (x ∷ t) e all h f = (all.0, (all.1.0, new_push n (with_fact held x.node.0 x.fact) t e all.1.1 h f))

-- what holds of the last one, and of those before it
pub record IsLast (n : ℕ) (held : Held) (t : List HeldFact) (e : HeldFact) : Type 0 where
  pub before : AreNew n held t
  pub within : e.node.0 < n
  pub new : held_from held t e.node.0 e.fact ≡ false

pub new_last : (n : ℕ) (held : Held) (t : List HeldFact) (e : HeldFact) → AreNew n held (t ++ e ∷ []) → IsLast n held t e
new_last n held [] e all = record { before = tt; within = all.0; new = all.1.0 }
new_last n held (x ∷ t) e all =
    let rest : IsLast n (with_fact held x.node.0 x.fact) t e = new_last n (with_fact held x.node.0 x.fact) t e all.1.1 in
    record { before = (all.0, (all.1.0, rest.before)); within = rest.within; new = rest.new }

pub last_within : (marks : List NodeFacts) (t t' : List HeldFact) (e : HeldFact) → t ≡ t' ++ e ∷ [] → IsTrail marks t → e.node.0 < length marks
last_within marks t t' e is trail = (new_last (length marks) none_held t' e (rw is at trail.new)).within

pub trail_more : (marks marks' : List NodeFacts) (t : List HeldFact) (e : HeldFact) → Becomes marks marks' (with_fact (held_by marks) e.node.0 e.fact) → held_by marks e.node.0 e.fact ≡ false → e.node.0 < length marks → IsTrail marks t → IsTrail marks' (t ++ e ∷ [])
trail_more marks marks' t e becomes missing h trail = record {
  held = λ x fact.
      becomes.facts x fact ∙ ap (λ b. (nat_eq x e.node.0 && same_fact fact e.fact) || b) (trail.held x fact)
      ∙ sym (ap (λ (held : Held). held x fact) (held_of-push t e));
  new = rw becomes.size (new_push (length marks) none_held t e trail.new h (sym (trail.held e.node.0 e.fact) ∙ missing));
}

pub trail_less : (marks marks' : List NodeFacts) (t t' : List HeldFact) (e : HeldFact) → t ≡ t' ++ e ∷ [] → Becomes marks marks' (without_fact (held_by marks) e.node.0 e.fact) → IsTrail marks t → IsTrail marks' t'
trail_less marks marks' t t' e is becomes trail =
    let last : IsLast (length marks) none_held t' e = new_last (length marks) none_held t' e (rw is at trail.new) in
    record {
      held = λ x fact.
          becomes.facts x fact
          ∙ ap (λ b. not (nat_eq x e.node.0 && same_fact fact e.fact) && b) (trail.held x fact ∙ ap (λ (s : List HeldFact). held_of s x fact) is ∙ ap (λ (held : Held). held x fact) (held_of-push t' e))
          ∙ without_with (held_of t') e.node.0 e.fact last.new x fact;
      new = rw becomes.size last.before;
    }

-- the marks and what came are one set
pub trail_is : (marks : List NodeFacts) (t : List HeldFact) → IsTrail marks t → held_by marks ≡ held_of t
trail_is marks t trail = fun_ext (λ x. fun_ext (λ fact. trail.held x fact))

pub mark_before : (t t' : List HeldFact) (e : HeldFact) (mark : ℕ) → t ≡ t' ++ e ∷ [] → mark < length t → mark ≤ length t'
mark_before t t' e mark is h = let more : length (t' ++ e ∷ []) ≡ length t' + 1 = length-append t' (e ∷ []) in let same : length t ≡ length (t' ++ e ∷ []) = ap length is in omega arith

pub take_before : (t t' : List HeldFact) (e : HeldFact) (mark : ℕ) → t ≡ t' ++ e ∷ [] → mark ≤ length t' → take mark t' ≡ take mark t
take_before t t' e mark is h = rw is (sym (take-append-le mark t' (e ∷ []) h))
