-- Facts that were added one after another.
use Rattle.std.proofs.Common.{Bool, List, Some, [], ap, append_assoc, arith, drop, false, inl, inr, length, not, refl, suc, sym, true, zero, ℕ, ◌&&◌, ◌++◌, ◌∙◌, ◌∷◌, ◌≡◌, ◌≤◌, ◌⊎◌}
use Rattle.std.proofs.Math.Seq.{drop-append_seam}
use Rattle.std.proofs.lemmas.Bool.{eq-eqb, eqb-true}
use Rattle.std.proofs.lemmas.List.{drop-append-le}
use Rattle.std.specs.Prelude.{nat_eq}
use mathlib.Core.Path.{fun_ext}
use Rattle.implications.specs.Laws.{TrailTells}
use Rattle.refutation.specs.FactLists.{IsAmong}
use Rattle.implications.specs.Trail.{LeadsBack, TakesBack, without_all}
use Rattle.refutation.specs.FactSets.{Becomes, held_by, is_marked}
use Rattle.refutation.specs.Facts.{Held, same_fact, without_fact}
use Rattle.refutation.proofs.Public.{same_fact_refl, same_fact_true}
use Rattle.refutation.specs.declared.held.NodeFacts.{NodeFacts}
use Rattle.refutation.specs.declared.reasoning.Fact.{Fact}
use Rattle.refutation.specs.declared.reasoning.Fact.TheVariants.{Differs, Equal, Faulty, Good}
use Rattle.rm_base.specs.declared.numbers.NodeId.{NodeId}

-- MARKS THAT HOLD THE SAME
same_marks : (m n : NodeFacts) → ((fact : Fact) → is_marked m fact ≡ is_marked n fact) → m ≡ n
same_marks m n h = rw (h (Good false), h (Good true), h (Faulty false), h (Faulty true), h Equal, h Differs) refl

-- marks for as many nodes that hold the same are the same
pub same_held : (a b : List NodeFacts) → length a ≡ length b → ((x : ℕ) (fact : Fact) → held_by a x fact ≡ held_by b x fact) → a ≡ b
same_held [] [] e h = refl
same_held [] (n ∷ b) e h = absurd (omega arith)
same_held (m ∷ a) [] e h = absurd (omega arith)
same_held (m ∷ a) (n ∷ b) e h =
    let first : m ≡ n = same_marks m n (λ fact. h zero fact) in
    let rest : a ≡ b = same_held a b (omega arith) (λ x fact. h (suc x) fact) in
    cc

pub held_past : (marks : List NodeFacts) (x : ℕ) (fact : Fact) → length marks ≤ x → held_by marks x fact ≡ false
held_past [] x fact h = refl
held_past (m ∷ marks) zero fact h = absurd (omega arith)
held_past (m ∷ marks) (suc x) fact h = held_past marks x fact (omega arith)

-- LISTS OF ADDED FACTS
pub without-append : (a b : List (NodeId × Fact)) (held : Held) → without_all (a ++ b) held ≡ without_all a (without_all b held)
without-append [] b held = refl
without-append (x ∷ a) b held = ap (λ h. without_fact h x.0.0 x.1) (without-append a b held)

among_shift : (a : NodeId × Fact) (added : List (NodeId × Fact)) (x : ℕ) (fact : Fact) → IsAmong added x fact → IsAmong (a ∷ added) x fact
among_shift a added x fact (k, (b, (there, is))) = (suc k, (b, (there, is)))

without_cases : (added : List (NodeId × Fact)) (held : Held) (x : ℕ) (fact : Fact) → held x fact ≡ true → (without_all added held x fact ≡ true) ⊎ IsAmong added x fact
without_cases [] held x fact e = inl e
without_cases (a ∷ added) held x fact e = elim (without_cases added held x fact e) [
  | inr among ↦ inr (among_shift a added x fact among)
  | inl stays ↦ at (nat_eq x a.0.0) (same_fact fact a.1) refl refl stays
]
  where
    at : (b c : Bool) → nat_eq x a.0.0 ≡ b → same_fact fact a.1 ≡ c → without_all added held x fact ≡ true → (without_all (a ∷ added) held x fact ≡ true) ⊎ IsAmong (a ∷ added) x fact
    at true true is same stays = inr (zero, (a, (refl, (sym (eqb-true x a.0.0 is), sym (same_fact_true fact a.1 same)))))
    at true false is same stays = inl (rw (is, same, stays) refl)
    at false c is same stays = inl (rw (is, stays) refl)

without_none : (added : List (NodeId × Fact)) (held : Held) (x : ℕ) (fact : Fact) → IsAmong added x fact → without_all added held x fact ≡ false
without_none [] held x fact (k, (b, (there, is))) = cc
without_none (a ∷ added) held x fact (zero, (b, (there, is))) =
    let same : a ≡ b = some_is there in
    let number : a.0.0 ≡ x = ap (λ (c : NodeId × Fact). c.0.0) same ∙ is.0 in
    let kind : a.1 ≡ fact = ap (λ (c : NodeId × Fact). c.1) same ∙ is.1 in
    rw (number, kind, eq-eqb x x refl, same_fact_refl fact) refl
  where
    some_is : {A : Type 0} {a b : A} → Some a ≡ Some b → a ≡ b
    some_is e = cc
without_none (a ∷ added) held x fact (suc k, (b, (there, is))) = rw (without_none added held x fact (k, (b, (there, is)))) (and_false (not (nat_eq x a.0.0 && same_fact fact a.1)))
  where
    and_false : (b : Bool) → (b && false) ≡ false
    and_false true = refl
    and_false false = refl

pub trail_tells : TrailTells
trail_tells trail mark now start b = record {
  all = λ x fact e. elim (without_cases (drop mark trail) (held_by now) x fact e) [ inl stays ↦ inl (b.back x fact ∙ stays) | inr among ↦ inr among ];
  new = λ x fact among. b.back x fact ∙ without_none (drop mark trail) (held_by now) x fact among;
}

-- TAKING BACK
pub back_first : (trail : List (NodeId × Fact)) (facts : List NodeFacts) → TakesBack trail facts trail facts
back_first trail facts = record { rest = []; cut = sym (append_nil trail); held = λ x fact. refl; size = refl }
  where
    append_nil : (xs : List (NodeId × Fact)) → xs ++ [] ≡ xs
    append_nil [] = refl
    append_nil (x ∷ xs) = ap (λ ys. x ∷ ys) (append_nil xs)

pub back_one : (trail : List (NodeId × Fact)) (facts : List NodeFacts) (trail' : List (NodeId × Fact)) (facts' : List NodeFacts) (a : NodeId × Fact) (less : List (NodeId × Fact)) (facts'' : List NodeFacts) → TakesBack trail facts trail' facts' → trail' ≡ less ++ a ∷ [] → Becomes facts' facts'' (without_fact (held_by facts') a.0.0 a.1) → TakesBack trail facts less facts''
back_one trail facts trail' facts' a less facts'' t is b = record {
  rest = a ∷ t.rest;
  cut = t.cut ∙ ap (λ xs. xs ++ t.rest) is ∙ append_assoc less (a ∷ []) t.rest;
  held = λ x fact. b.facts x fact ∙ ap (λ h. not (nat_eq x a.0.0 && same_fact fact a.1) && h) (t.held x fact);
  size = b.size ∙ t.size;
}

pub back_past : (facts : List NodeFacts) (a : NodeId × Fact) → length facts ≤ a.0.0 → Becomes facts facts (without_fact (held_by facts) a.0.0 a.1)
back_past facts a past = record { facts = λ x fact. at x fact (nat_eq x a.0.0) refl; size = refl }
  where
    at : (x : ℕ) (fact : Fact) (b : Bool) → nat_eq x a.0.0 ≡ b → held_by facts x fact ≡ (not (nat_eq x a.0.0 && same_fact fact a.1) && held_by facts x fact)
    at x fact true is = let e : x ≡ a.0.0 = eqb-true x a.0.0 is in let none : held_by facts x fact ≡ false = held_past facts x fact (omega arith) in rw (none, is) (sym (and_false (not (true && same_fact fact a.1))))
      where
        and_false : (b : Bool) → (b && false) ≡ false
        and_false true = refl
        and_false false = refl
    at x fact false is = rw is refl

rest_is : (trail trail' rest : List (NodeId × Fact)) (mark : ℕ) → trail ≡ trail' ++ rest → length trail' ≡ mark → drop mark trail ≡ rest
rest_is trail trail' rest mark cut long = ap (λ xs. drop mark xs) cut ∙ ap (λ n. drop n (trail' ++ rest)) (sym long) ∙ drop-append_seam trail' rest

pub back_all : (trail : List (NodeId × Fact)) (facts : List NodeFacts) (trail' : List (NodeId × Fact)) (facts' : List NodeFacts) (mark : ℕ) → TakesBack trail facts trail' facts' → length trail' ≡ mark → (start : List NodeFacts) → LeadsBack trail mark facts start → facts' ≡ start
back_all trail facts trail' facts' mark t long start b =
    same_held facts' start (t.size ∙ b.size)
    (λ x fact. t.held x fact ∙ ap (λ rest. without_all rest (held_by facts) x fact) (sym (rest_is trail trail' t.rest mark t.cut long)) ∙ sym (b.back x fact))

pub back_earlier : (trail : List (NodeId × Fact)) (facts : List NodeFacts) (trail' : List (NodeId × Fact)) (facts' : List NodeFacts) (mark : ℕ) → TakesBack trail facts trail' facts' → length trail' ≡ mark → (earlier : ℕ) (start : List NodeFacts) → earlier ≤ mark → LeadsBack trail earlier facts start → LeadsBack trail' earlier facts' start
back_earlier trail facts trail' facts' mark t long earlier start le b = record {
  order = omega arith;
  size = t.size ∙ b.size;
  back = λ x fact. b.back x fact ∙ ap (λ h. h x fact) (split ∙ inner);
}
  where
    split : without_all (drop earlier trail) (held_by facts) ≡ without_all (drop earlier trail') (without_all t.rest (held_by facts))
    split = ap (λ xs. without_all (drop earlier xs) (held_by facts)) t.cut ∙ ap (λ xs. without_all xs (held_by facts)) (drop-append-le earlier trail' t.rest (omega arith)) ∙ without-append (drop earlier trail') t.rest (held_by facts)

    inner : without_all (drop earlier trail') (without_all t.rest (held_by facts)) ≡ without_all (drop earlier trail') (held_by facts')
    inner = ap (λ h. without_all (drop earlier trail') h) (sym (fun_ext (λ x. fun_ext (λ fact. t.held x fact))))
