-- What is known of a node is true where the facts are.
use Rattle.std.proofs.Common.{Bool, List, Option, Some, [], ap, false, inl, inr, map, not, refl, suc, sym, true, zero, ℕ, ◌&&◌, ◌∙◌, ◌∷◌, ◌≡◌, ◌⊎◌}
use Rattle.std.proofs.lemmas.Bool.Decides.{eqb_tells}
use Rattle.std.specs.List.{list_all}
use Rattle.std.specs.Prelude.{nat_eq, slice_get}
use Rattle.std.proofs.lemmas.Bool.{and_parts, or_cases}
use Rattle.gate_net.specs.Forward.{all_but, is_known}
use Rattle.gate_net.proofs.Public.{is_known_true, same_bool_true}
use Rattle.refutation.specs.Facts.{AreTrueFacts, Held, IsTrueFact, known_equal, known_faulty, known_good, one_of, same_fact, with_fact}
use Rattle.refutation.specs.declared.reasoning.Fact.{Fact}
use Rattle.refutation.specs.declared.reasoning.Fact.TheVariants.{Differs, Equal, Faulty, Good}

pub same_fact_true : (g h : Fact) → same_fact g h ≡ true → g ≡ h
same_fact_true (Good b) (Good c) e = ap Good (same_bool_true b c e)
same_fact_true (Good b) (Faulty c) e = cc
same_fact_true (Good b) Equal e = cc
same_fact_true (Good b) Differs e = cc
same_fact_true (Faulty b) (Good c) e = cc
same_fact_true (Faulty b) (Faulty c) e = ap Faulty (same_bool_true b c e)
same_fact_true (Faulty b) Equal e = cc
same_fact_true (Faulty b) Differs e = cc
same_fact_true Equal (Good c) e = cc
same_fact_true Equal (Faulty c) e = cc
same_fact_true Equal Equal e = refl
same_fact_true Equal Differs e = cc
same_fact_true Differs (Good c) e = cc
same_fact_true Differs (Faulty c) e = cc
same_fact_true Differs Equal e = cc
same_fact_true Differs Differs e = refl

pub facts_with : (v f : ℕ → Bool) (held : Held) (x : ℕ) (fact : Fact) → AreTrueFacts v f held → IsTrueFact v f x fact → AreTrueFacts v f (with_fact held x fact)
facts_with v f held x fact all here y other e = elim (or_cases (nat_eq y x && same_fact other fact) (held y other) e) [
  | inr before ↦ all y other before
  | inl new ↦ elim (eqb_tells y x) [
    | inl t ↦ rw (t.1, same_fact_true other fact (and_parts (nat_eq y x) (same_fact other fact) new).1) here
    | inr t ↦ let no_test : nat_eq y x ≡ true = (and_parts (nat_eq y x) (same_fact other fact) new).0 in let is : nat_eq y x ≡ false = t.0 in cc
  ]
]

-- which of two tests holds
pub one_of_true : (t u b : Bool) → one_of t u ≡ Some b → ((b ≡ false) × (t ≡ true)) ⊎ ((b ≡ true) × (u ≡ true))
one_of_true true true b e = cc
one_of_true true false b e = inl (cc, refl)
one_of_true false true b e = inr (cc, refl)
one_of_true false false b e = cc

module _ (v f : ℕ → Bool) (held : Held) (facts : AreTrueFacts v f held) where
  pub good_right : (x : ℕ) (b : Bool) → known_good held x ≡ Some b → v x ≡ b
  good_right x b e = elim (one_of_true (held x (Good false)) (held x (Good true)) b e) [
    | inl h ↦ facts x (Good false) h.1 ∙ sym h.0
    | inr h ↦ facts x (Good true) h.1 ∙ sym h.0
  ]

  pub faulty_right : (x : ℕ) (b : Bool) → known_faulty held x ≡ Some b → f x ≡ b
  faulty_right x b e = elim (one_of_true (held x (Faulty false)) (held x (Faulty true)) b e) [
    | inl h ↦ facts x (Faulty false) h.1 ∙ sym h.0
    | inr h ↦ facts x (Faulty true) h.1 ∙ sym h.0
  ]

  pub equal_right : (x : ℕ) → known_equal held x ≡ Some true → v x ≡ f x
  equal_right x e = elim (one_of_true (held x Differs) (held x Equal) true e) [
    | inl h ↦ let wrong : true ≡ false = h.0 in cc
    | inr h ↦ facts x Equal h.1
  ]

  pub differs_right : (x : ℕ) → known_equal held x ≡ Some false → v x ≡ not (f x)
  differs_right x e = elim (one_of_true (held x Differs) (held x Equal) false e) [
    | inl h ↦ facts x Differs h.1
    | inr h ↦ let wrong : false ≡ true = h.0 in cc
  ]

pub all_known : (k : ℕ → Option Bool) (ds : List ℕ) → list_all (is_known true) (map k ds) ≡ true → (p x : ℕ) → slice_get ds p ≡ Some x → k x ≡ Some true
all_known k [] e p x there = cc
all_known k (d ∷ ds) e zero x there =
    let same : d ≡ x = cc in
    rw (← same) (is_known_true true (k d) (and_parts (is_known true (k d)) (list_all (is_known true) (map k ds)) e).0)
all_known k (d ∷ ds) e (suc p) x there = all_known k ds (and_parts (is_known true (k d)) (list_all (is_known true) (map k ds)) e).1 p x there

pub all_but_known : (k : ℕ → Option Bool) (ds : List ℕ) (q : ℕ) → all_but (is_known true) q (map k ds) ≡ true → (p x : ℕ) → slice_get ds p ≡ Some x → (p ≡ q) ⊎ (k x ≡ Some true)
all_but_known k [] q e p x there = cc
all_but_known k (d ∷ ds) zero e zero x there = inl refl
all_but_known k (d ∷ ds) zero e (suc p) x there = inr (all_known k ds e p x there)
all_but_known k (d ∷ ds) (suc q) e zero x there =
    let same : d ≡ x = cc in
    inr (rw (← same) (is_known_true true (k d) (and_parts (is_known true (k d)) (all_but (is_known true) q (map k ds)) e).0))
all_but_known k (d ∷ ds) (suc q) e (suc p) x there =
    elim (all_but_known k ds q (and_parts (is_known true (k d)) (all_but (is_known true) q (map k ds)) e).1 p x there) [
      | inl same ↦ inl (ap suc same)
      | inr known ↦ inr known
    ]
