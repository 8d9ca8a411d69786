-- The pool's lists as functions of the node number.
use Rattle.std.proofs.Common.{◌≡◌, ◌≢◌, ℕ, zero, suc, ◌+◌, ◌<◌, Bool, true, false, List, [], ◌∷◌, ◌++◌, length, set, replicate, refl, sym, ap, ◌∙◌, arith, inl, inr, get_or-set_same, get_or-set_other}
use mathlib.Core.Path.{fun_ext}
use Rattle.std.specs.FinSet as finset
use Rattle.std.specs.Ordering.{nat_cmp}
use Rattle.std.specs.Cmp.{nat_cmp_total, unsigned_tied}
use Rattle.std.specs.FinSet.{contains-insert, contains-remove}
use Rattle.std.proofs.lemmas.Bool.{cases_eq, cases_lt, ne_eqb, eq-eqb}
use Rattle.std.proofs.lemmas.Bool.Decides.{nat_tests}
use Rattle.std.proofs.lemmas.List.{get_or_past}
use Rattle.pin_pool.specs.Ring.{has, without}
use Rattle.pin_pool.specs.Inner.Ring.{without_pin}
use Rattle.pin_pool.specs.Pins.{Pins, list_of}
use Rattle.pin_pool.specs.Inner.Places.{ArePaired, AreApart, GrowsTo, IsKept, IsListed}
use Rattle.pin_pool.specs.Rings.{Rings, rings_of, no_rings, changed, all_without, IsIn, AreOnce, IsValid}

pub changed-same : {A : Type 0} (f : ℕ → A) (n : ℕ) (x : A) → changed f n x n ≡ x
changed-same f n x = rw (eq-eqb n n refl) refl

pub changed-other : {A : Type 0} (f : ℕ → A) (n : ℕ) (x : A) (m : ℕ) → m ≢ n → changed f n x m ≡ f m
changed-other f n x m ne = rw (ne_eqb m n ne) refl

pub list_of-set : (lists : List (List ℕ)) (g : ℕ) (x : List ℕ) → g < length lists → (λ (n : ℕ). list_of (set lists g x) n) ≡ changed (λ n. list_of lists n) g x
list_of-set lists g x h = fun_ext (λ n. elim (cases_eq n g) [
  | inl e ↦ rw e (get_or-set_same lists g x [] h ∙ sym (changed-same (λ (n : ℕ). list_of lists n) g x))
  | inr e ↦ get_or-set_other lists g n x [] e ∙ sym (changed-other (λ (n : ℕ). list_of lists n) g x n e)
])

pub list-without : (lists : List (List ℕ)) (p n : ℕ) → list_of (without_pin p lists) n ≡ without p (list_of lists n)
list-without [] p n = refl
list-without (xs ∷ lists) p zero = refl
list-without (xs ∷ lists) p (suc n) = list-without lists p n

pub list_of-without : (lists : List (List ℕ)) (p : ℕ) → (λ (n : ℕ). list_of (without_pin p lists) n) ≡ all_without p (λ n. list_of lists n)
list_of-without lists p = fun_ext (λ n. list-without lists p n)

pub contains-one_more : (s : finset.FinSet nat_cmp) (p : ℕ) → (λ (q : ℕ). finset.contains (finset.insert s p) q) ≡ changed (λ q. finset.contains s q) p true
contains-one_more s p = fun_ext (λ q.
    let read = contains-insert nat_cmp_total s p q in
    grind (arith, nat_tests, read, unsigned_tied q p))

pub contains-one_less : (s : finset.FinSet nat_cmp) (p : ℕ) → (λ (q : ℕ). finset.contains (finset.remove s p) q) ≡ changed (λ q. finset.contains s q) p false
contains-one_less s p = fun_ext (λ q.
    let read = contains-remove nat_cmp_total s p q in
    grind (arith, nat_tests, read, unsigned_tied q p))

pub same-rings : (r s : Rings) → r.inputs ≡ s.inputs → r.fanouts ≡ s.fanouts → r.taken ≡ s.taken → r ≡ s
same-rings r s a b c = λ i. record { inputs = a i; fanouts = b i; taken = c i }

-- what is in some list
pub has-within : (lists : List (List ℕ)) (n q : ℕ) → has q (list_of lists n) ≡ true → n < length lists
has-within lists n q h = elim (cases_lt n (length lists)) [
  | inl lt ↦ lt
  | inr le ↦ let past : list_of lists n ≡ [] = get_or_past lists n [] le in cc
]

pub listed : (lists : List (List ℕ)) (p : ℕ) → IsIn (λ n. list_of lists n) p → IsListed lists p
listed lists p i = (i.0, has-within lists i.0 p i.1, i.1)

are-once : (lists : List (List ℕ)) (taken : finset.FinSet nat_cmp) → AreApart lists taken → AreOnce (λ n. list_of lists n) (λ p. finset.contains taken p)
are-once lists taken v = record {
  apart = λ n. elim (cases_lt n (length lists)) [ inl h ↦ v.apart n h | inr le ↦ rw (get_or_past lists n [] le) tt ];
  one = λ m n q h k. v.one m n q (has-within lists m q h) (has-within lists n q k) h k;
  members = λ n q h. v.members n q (has-within lists n q h) h;
}

pub valid-of : (v : Pins) → IsKept v → ArePaired (rings_of v) → IsValid v
valid-of v k p = record {
  rings = record { inputs = are-once v.inputs v.taken k.inputs; fanouts = are-once v.fanouts v.taken k.fanouts; driven = p.driven; read = p.read };
  nodes = k.nodes;
  few = k.few;
}

-- a pool that has grown
list-blank : (n m : ℕ) → list_of (replicate n []) m ≡ []
list-blank zero m = refl
list-blank (suc n) zero = refl
list-blank (suc n) (suc m) = list-blank n m

list-more : (lists : List (List ℕ)) (n m : ℕ) → list_of (lists ++ replicate n []) m ≡ list_of lists m
list-more [] n m = list-blank n m
list-more (xs ∷ lists) n zero = refl
list-more (xs ∷ lists) n (suc m) = list-more lists n m

lists-more : (old new : List (List ℕ)) → ((n : ℕ) × (new ≡ old ++ replicate n [])) → (let f : ℕ → List ℕ = λ m. list_of new m in let g : ℕ → List ℕ = λ m. list_of old m in f ≡ g)
lists-more old new g = fun_ext (λ m. rw g.1 (list-more old g.0 m))

pub rings-grown : (v w : Pins) → GrowsTo v w → rings_of w ≡ rings_of v
rings-grown v w g = same-rings _ _ (lists-more v.inputs w.inputs g.inputs) (lists-more v.fanouts w.fanouts g.fanouts) (ap {B = ℕ → Bool} (λ (s : finset.FinSet nat_cmp) (q : ℕ). finset.contains s q) g.taken)

pub rings-new : (v : Pins) → v.inputs ≡ [] → v.fanouts ≡ [] → v.taken ≡ finset.empty → rings_of v ≡ no_rings
rings-new v a b c = rw (a, b, c) (same-rings _ _ refl refl (fun_ext (λ q. finset.contains-empty nat_cmp q)))

pub rings-claimed : (v w : Pins) (p : ℕ) → w.inputs ≡ v.inputs → w.fanouts ≡ v.fanouts → w.taken ≡ finset.insert v.taken p → rings_of w ≡ (let r : Rings = record { inputs = λ n. list_of v.inputs n; fanouts = λ n. list_of v.fanouts n; taken = changed (λ q. finset.contains v.taken q) p true } in r)
rings-claimed v w p a b c = rw (a, b, c) (same-rings _ _ refl refl (contains-one_more v.taken p))

pub rings-returned : (v w : Pins) (p : ℕ) → w ≡ record { inputs = v.inputs; fanouts = v.fanouts; taken = finset.remove v.taken p; spare = v.spare + 1 } → rings_of w ≡ (let r : Rings = record { inputs = λ n. list_of v.inputs n; fanouts = λ n. list_of v.fanouts n; taken = changed (λ q. finset.contains v.taken q) p false } in r)
rings-returned v w p e = rw e (same-rings _ _ refl refl (contains-one_less v.taken p))
