-- Where the parity of a gate's pins differs.
use Rattle.std.proofs.Common.{Bool, List, Option, Some, [], ap, arith, false, inl, inr, map, not, refl, suc, sym, true, zero, ℕ, ◌||◌, ◌∙◌, ◌∷◌, ◌≡◌, ◌⊎◌}
use Rattle.std.proofs.lemmas.Bool.Decides.{eqb_tells}
use Rattle.std.proofs.lemmas.Bool.{or_cases}
use Rattle.std.specs.List.{list_any}
use Rattle.std.specs.Prelude.{nat_eq, slice_get}
use Rattle.local_evaluation.proofs.Public.{many_fail, one_fails, passes_at}
use Rattle.local_evaluation.specs.Pins.{FailsAt, IsScan, failing}
use Rattle.local_evaluation.specs.declared.pins.PinScan.{PinScan}
use Rattle.gate_net.proofs.Public.{is_known_true, parity_turned}
use Rattle.gate_net.specs.Meaning.{all_but, family, family_value, gate_value, inversion, inversion_in, is_known, parity, turned}
use Rattle.gate_net.specs.declared.Family.{Family}
use Rattle.gate_net.specs.declared.Family.TheVariants.{Constant, Input, Junction, Parity}
use Rattle.gate_net.specs.declared.Kind.{Kind}
use Rattle.refutation.specs.Facts.{Held, known_equal}
use Rattle.refutation.specs.Lines.{OneDiffers}
use Rattle.rm_base.proofs.Public.{map_agree, map_at, some_same}

-- the value of a Not or an Xor
family_parity : (f : Family) (i assigned : Bool) (bs : List Bool) → inversion_in f ≡ Some i → family_value f assigned bs ≡ parity i bs
family_parity Input i assigned bs e = cc
family_parity (Constant b) i assigned bs e = cc
family_parity (Junction c) i assigned bs e = cc
family_parity (Parity j) i assigned bs e = ap (λ (k : Bool). parity k bs) (some_same e)

pub parity_value : (kind : Kind) (i assigned : Bool) (bs : List Bool) → inversion kind ≡ Some i → gate_value kind assigned bs ≡ parity i bs
parity_value kind = family_parity (family kind)

turned_not : (b i : Bool) → turned (not b) i ≡ turned true (turned b i)
turned_not true true = refl
turned_not true false = refl
turned_not false i = refl

-- where the values at one pin are opposite and those at all others the same, so are the parities opposite
pub parity_one : (i : Bool) (v f : ℕ → Bool) (ds : List ℕ) (q d : ℕ) → slice_get ds q ≡ Some d → v d ≡ not (f d) → ((p x : ℕ) → slice_get ds p ≡ Some x → (p ≡ q) ⊎ (v x ≡ f x)) → parity i (map v ds) ≡ not (parity i (map f ds))
parity_one i v f [] q d there differs h = cc
parity_one i v f (y ∷ ds) zero d there differs h =
    let same : y ≡ d = some_same there in
    let opposite : v y ≡ not (f y) = rw same differs in
    let rest : map v ds ≡ map f ds = map_agree v f ds each in
    ap (λ (bs : List Bool). parity (turned (v y) i) bs) rest ∙ ap (λ (b : Bool). parity (turned b i) (map f ds)) opposite
    ∙ ap (λ (j : Bool). parity j (map f ds)) (turned_not (f y) i) ∙ parity_turned true (turned (f y) i) (map f ds)
  where
    each : (p x : ℕ) → slice_get ds p ≡ Some x → v x ≡ f x
    each p x e = elim (h (suc p) x e) [ inl wrong ↦ absurd (omega arith) | inr same ↦ same ]
parity_one i v f (y ∷ ds) (suc q) d there differs h =
    ap (λ (b : Bool). parity (turned b i) (map v ds)) first ∙ parity_one (turned (f y) i) v f ds q d there differs each
  where
    first : v y ≡ f y
    first = elim (h zero y refl) [ inl wrong ↦ absurd (omega arith) | inr same ↦ same ]

    each : (p x : ℕ) → slice_get ds p ≡ Some x → (p ≡ q) ⊎ (v x ≡ f x)
    each p x e = elim (h (suc p) x e) [ inl same ↦ inl (omega arith) | inr same ↦ inr same ]

-- ONE LOOK TELLS
any_at : (k : ℕ → Option Bool) (ds : List ℕ) → list_any (is_known false) (map k ds) ≡ true → (q : ℕ) × (d : ℕ) × (slice_get ds q ≡ Some d) × (k d ≡ Some false)
any_at k [] e = cc
any_at k (d ∷ ds) e = elim (or_cases (is_known false (k d)) (list_any (is_known false) (map k ds)) e) [
  | inl here ↦ (zero, d, refl, is_known_true false (k d) here)
  | inr later ↦ let at : (q : ℕ) × (x : ℕ) × (slice_get ds q ≡ Some x) × (k x ≡ Some false) = any_at k ds later in (suc at.0, at.1, at.2, at.3)
]

at_any : (os : List (Option Bool)) (q : ℕ) → slice_get os q ≡ Some (Some false) → list_any (is_known false) os ≡ true
at_any [] q e = cc
at_any (o ∷ os) zero e = let is : o ≡ Some false = some_same e in rw is refl
at_any (o ∷ os) (suc q) e = at (is_known false o) (at_any os q e)
  where
    at : (t : Bool) → list_any (is_known false) os ≡ true → (t || list_any (is_known false) os) ≡ true
    at true later = refl
    at false later = later

same_number : (n : ℕ) → nat_eq n n ≡ true
same_number n = elim (eqb_tells n n) [ inl t ↦ t.0 | inr t ↦ absurd (t.1 refl) ]

module _ (g : PinScan) (held : Held) (ds : List ℕ) (looks : IsScan g false (map (known_equal held) ds)) where
  differs_fails : (q d : ℕ) → slice_get ds q ≡ Some d → known_equal held d ≡ Some false → FailsAt (is_known true) (map (known_equal held) ds) q
  differs_fails q d there is = (Some false, (map_at (known_equal held) ds q d there ∙ ap Some is, refl))

  pub one_found : g.rest ≡ 1 → g.any ≡ true → OneDiffers held ds
  one_found one any =
      let at : (q : ℕ) × (d : ℕ) × (slice_get ds q ≡ Some d) × (known_equal held d ≡ Some false) = any_at (known_equal held) ds (sym looks.any ∙ any) in
      (at.0, at.1, at.2, at.3, one_fails (is_known true) at.0 at.0 (map (known_equal held) ds) (sym looks.rest ∙ one) (differs_fails at.0 at.1 at.2 at.3) ∙ same_number at.0)

  pub one_any : OneDiffers held ds → g.any ≡ true
  one_any h = looks.any ∙ at_any (map (known_equal held) ds) h.0 (map_at (known_equal held) ds h.0 h.1 h.2 ∙ ap Some h.3)

  pub one_rest : OneDiffers held ds → g.rest ≡ 1
  one_rest h = count (failing (is_known true) (map (known_equal held) ds)) refl
    where
      count : (n : ℕ) → failing (is_known true) (map (known_equal held) ds) ≡ n → g.rest ≡ 1
      count zero is = absurd (passes_at (is_known true) (map (known_equal held) ds) h.0 is (differs_fails h.0 h.1 h.2 h.3))
      count (suc zero) is = looks.rest ∙ is
      count (suc (suc n)) is =
          let fails : all_but (is_known true) h.0 (map (known_equal held) ds) ≡ false = many_fail (is_known true) h.0 (map (known_equal held) ds) (omega arith) in
          let passes : all_but (is_known true) h.0 (map (known_equal held) ds) ≡ true = h.4 in
          cc
