-- What follows forward and backward at a gate is right.
use Rattle.std.proofs.Common.{Bool, List, None, Option, Some, [], ap, false, inl, inr, map, not, refl, suc, sym, true, zero, ℕ, ◌∙◌, ◌∷◌, ◌≡◌}
use Rattle.std.specs.List.{list_all, list_any}
use Rattle.std.specs.Prelude.{if◌then◌else◌, slice_get, slice_set}
use Rattle.std.proofs.Math.Bool.{not-not}
use Rattle.std.proofs.lemmas.Bool.{and_parts, or_cases}
use Rattle.gate_net.proofs.Bools.{same_bool_false, same_bool_true}
use Rattle.gate_net.proofs.Junctions.{junction_cons_other, junction_cons_same, junction_member}
use Rattle.gate_net.specs.Forward.{all_but, family_back, family_forward, is_known, junction_back, junction_follows, parity_back, parity_follows, value_back, value_forward}
use Rattle.gate_net.specs.Values.{family, family_value, gate_value, junction, parity, same_bool, turned}
use Rattle.gate_net.specs.declared.Family.{Family}
use Rattle.gate_net.specs.declared.Family.TheVariants.{Constant, Input, Junction, Parity}
use Rattle.gate_net.specs.declared.Kind.{Kind}
use Rattle.rm_base.proofs.Public.{bool_cases, never_opposite, some_same}
use Rattle.gate_net.specs.Inner.Stays.{Approximates}

pub approximates_map : (known : ℕ → Option Bool) (v : ℕ → Bool) (ds : List ℕ) → ((p x : ℕ) → slice_get ds p ≡ Some x → (c : Bool) → known x ≡ Some c → v x ≡ c) → Approximates (map known ds) (map v ds)
approximates_map known v [] h = tt
approximates_map known v (d ∷ ds) h = (h 0 d refl, approximates_map known v ds (λ p x e. h (suc p) x e))

pub approximates_set : (os : List (Option Bool)) (bs : List Bool) (p : ℕ) (b : Bool) → Approximates os bs → Approximates (slice_set os p (Some b)) (slice_set bs p b)
approximates_set [] [] p b h = tt
approximates_set [] (x ∷ bs) p b h = absurd h
approximates_set (o ∷ os) [] p b h = absurd h
approximates_set (o ∷ os) (x ∷ bs) zero b h = (λ c e. some_same e, h.1)
approximates_set (o ∷ os) (x ∷ bs) (suc p) b h = (h.0, approximates_set os bs p b h.1)

pub is_known_true : (c : Bool) (o : Option Bool) → is_known c o ≡ true → o ≡ Some c
is_known_true c None e = cc
is_known_true c (Some b) e = ap Some (sym (same_bool_true c b e))

pub junction_any : (c : Bool) (os : List (Option Bool)) (bs : List Bool) → Approximates os bs → list_any (is_known c) os ≡ true → junction c bs ≡ c
junction_any c [] bs h e = cc
junction_any c (o ∷ os) [] h e = absurd h
junction_any c (o ∷ os) (b ∷ bs) h e = elim (or_cases (is_known c o) (list_any (is_known c) os) e) [
  | inl here ↦ junction_cons_same c b bs (h.0 c (is_known_true c o here))
  | inr later ↦ elim (bool_cases b c) [
    | inl same ↦ junction_cons_same c b bs same
    | inr other ↦ junction_cons_other c b bs other ∙ junction_any c os bs h.1 later
  ]
]

pub junction_all : (c : Bool) (os : List (Option Bool)) (bs : List Bool) → Approximates os bs → list_all (is_known (not c)) os ≡ true → junction c bs ≡ not c
junction_all c [] [] h e = refl
junction_all c [] (b ∷ bs) h e = absurd h
junction_all c (o ∷ os) [] h e = absurd h
junction_all c (o ∷ os) (b ∷ bs) h e =
    let both : (is_known (not c) o ≡ true) × (list_all (is_known (not c)) os ≡ true) = and_parts (is_known (not c) o) (list_all (is_known (not c)) os) e in
    junction_cons_other c b bs (h.0 (not c) (is_known_true (not c) o both.0)) ∙ junction_all c os bs h.1 both.1

-- where all other pins have the noncontrolling value, the value is that of the pin
pub junction_others : (c : Bool) (os : List (Option Bool)) (bs : List Bool) (q : ℕ) (r : Bool) → Approximates os bs → all_but (is_known (not c)) q os ≡ true → slice_get bs q ≡ Some r → junction c bs ≡ r
junction_others c os [] q r h e there = cc
junction_others c [] (b ∷ bs) q r h e there = absurd h
junction_others c (o ∷ os) (b ∷ bs) zero r h e there = elim (bool_cases b c) [
  | inl same ↦ junction_cons_same c b bs same ∙ sym same ∙ some_same there
  | inr other ↦ junction_cons_other c b bs other ∙ junction_all c os bs h.1 e ∙ sym other ∙ some_same there
]
junction_others c (o ∷ os) (b ∷ bs) (suc q) r h e there =
    let both : (is_known (not c) o ≡ true) × (all_but (is_known (not c)) q os ≡ true) = and_parts (is_known (not c) o) (all_but (is_known (not c)) q os) e in
    junction_cons_other c b bs (h.0 (not c) (is_known_true (not c) o both.0)) ∙ junction_others c os bs q r h.1 both.1 there

pub junction_forward : (c value : Bool) (os : List (Option Bool)) (bs : List Bool) → Approximates os bs → junction_follows c os ≡ Some value → junction c bs ≡ value
junction_forward c value os bs h e = any (list_any (is_known c) os) refl
  where
    all_same : (t : Bool) → list_all (is_known (not c)) os ≡ t → (if t then Some (not c) else None) ≡ Some value → junction c bs ≡ value
    all_same true is e = junction_all c os bs h is ∙ some_same e
    all_same false is e = cc

    any : (t : Bool) → list_any (is_known c) os ≡ t → junction c bs ≡ value
    any true is = junction_any c os bs h is ∙ some_same (rw is at e)
    any false is = all_same (list_all (is_known (not c)) os) refl (rw is at e)

pub parity_forward : (i value : Bool) (os : List (Option Bool)) (bs : List Bool) → Approximates os bs → parity_follows i os ≡ Some value → parity i bs ≡ value
parity_forward i value [] [] h e = some_same e
parity_forward i value [] (b ∷ bs) h e = absurd h
parity_forward i value (o ∷ os) [] h e = absurd h
parity_forward i value (None ∷ os) (b ∷ bs) h e = cc
parity_forward i value (Some c ∷ os) (b ∷ bs) h e = rw (h.0 c refl) (parity_forward (turned c i) value os bs h.1 e)

pub family_forward_right : (family : Family) (value assigned : Bool) (os : List (Option Bool)) (bs : List Bool) → Approximates os bs → family_forward family os ≡ Some value → family_value family assigned bs ≡ value
family_forward_right Input value assigned os bs h e = cc
family_forward_right (Constant b) value assigned os bs h e = cc
family_forward_right (Junction c) value assigned os bs h e = junction_forward c value os bs h e
family_forward_right (Parity i) value assigned os bs h e = parity_forward i value os bs h e

pub value_forward_right : (kind : Kind) (value assigned : Bool) (os : List (Option Bool)) (bs : List Bool) → Approximates os bs → value_forward kind os ≡ Some value → gate_value kind assigned bs ≡ value
value_forward_right kind = family_forward_right (family kind)

pub junction_backward : (c value other r : Bool) (os : List (Option Bool)) (bs : List Bool) (q : ℕ) → Approximates os bs → slice_get bs q ≡ Some r → junction c bs ≡ value → junction_back c value os q ≡ Some other → r ≡ other
junction_backward c value other r os bs q h there is e = at_value (same_bool value c) refl
  where
    others : (t : Bool) → all_but (is_known (not c)) q os ≡ t → value ≡ c → (if t then Some c else None) ≡ Some other → r ≡ other
    others true all same e = sym (junction_others c os bs q r h all there) ∙ is ∙ same ∙ some_same e
    others false all same e = cc

    at_value : (t : Bool) → same_bool value c ≡ t → r ≡ other
    at_value true test = others (all_but (is_known (not c)) q os) refl (same_bool_true value c test) (rw test at e)
    at_value false test = elim (bool_cases r c) [
      | inl same ↦ absurd (never_opposite c (sym (junction_member c bs q (there ∙ ap Some same)) ∙ is ∙ same_bool_false value c test))
      | inr opposite ↦ opposite ∙ some_same (rw test at e)
    ]

pub turned_twice : (b i : Bool) → turned b (turned b i) ≡ i
turned_twice true i = not-not i
turned_twice false i = refl

pub turned_apart : (b c i : Bool) → turned b (turned c i) ≡ turned c (turned b i)
turned_apart true true i = refl
turned_apart true false i = refl
turned_apart false true i = refl
turned_apart false false i = refl

pub turned_swapped : (b c : Bool) → turned b c ≡ turned c b
turned_swapped true true = refl
turned_swapped true false = refl
turned_swapped false true = refl
turned_swapped false false = refl

-- what turns the inversion turns the parity
pub parity_turned : (b i : Bool) (bs : List Bool) → parity (turned b i) bs ≡ turned b (parity i bs)
parity_turned b i [] = refl
parity_turned b i (c ∷ bs) = ap (λ (j : Bool). parity j bs) (turned_apart c b i) ∙ parity_turned b (turned c i) bs

-- the value at a pin is that of the gate, turned by all others
pub parity_backward : (i value other r : Bool) (os : List (Option Bool)) (bs : List Bool) (q : ℕ) → Approximates os bs → slice_get bs q ≡ Some r → parity i bs ≡ value → parity_back (turned value i) os q ≡ Some other → r ≡ other
parity_backward i value other r os [] q h there is e = cc
parity_backward i value other r [] (b ∷ bs) q h there is e = absurd h
parity_backward i value other r (o ∷ os) (b ∷ bs) zero h there is e =
    let rest : parity (turned value i) bs ≡ other = parity_forward (turned value i) other os bs h.1 e in
    let whole : turned b (parity i bs) ≡ value = sym (parity_turned b i bs) ∙ is in
    let same : b ≡ r = some_same there in
    sym same ∙ sym (turned_twice (parity i bs) b) ∙ ap (turned (parity i bs)) (turned_swapped (parity i bs) b ∙ whole)
    ∙ turned_swapped (parity i bs) value ∙ sym (parity_turned value i bs) ∙ rest
parity_backward i value other r (None ∷ os) (b ∷ bs) (suc q) h there is e = cc
parity_backward i value other r (Some c ∷ os) (b ∷ bs) (suc q) h there is e =
    let same : b ≡ c = h.0 c refl in
    parity_backward (turned c i) value other r os bs q h.1 there (ap (λ (d : Bool). parity (turned d i) bs) (sym same) ∙ is)
    (ap (λ (j : Bool). parity_back j os q) (turned_apart value c i) ∙ e)

pub family_back_right : (family : Family) (value other r assigned : Bool) (os : List (Option Bool)) (bs : List Bool) (q : ℕ) → Approximates os bs → slice_get bs q ≡ Some r → family_value family assigned bs ≡ value → family_back family value os q ≡ Some other → r ≡ other
family_back_right Input value other r assigned os bs q h there is e = cc
family_back_right (Constant b) value other r assigned os bs q h there is e = cc
family_back_right (Junction c) value other r assigned os bs q h there is e = junction_backward c value other r os bs q h there is e
family_back_right (Parity i) value other r assigned os bs q h there is e = parity_backward i value other r os bs q h there is e

pub value_back_right : (kind : Kind) (value other r assigned : Bool) (os : List (Option Bool)) (bs : List Bool) (q : ℕ) → Approximates os bs → slice_get bs q ≡ Some r → gate_value kind assigned bs ≡ value → value_back kind value os q ≡ Some other → r ≡ other
value_back_right kind = family_back_right (family kind)
