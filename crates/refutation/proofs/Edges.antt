-- A partial tree has few edges.
use Rattle.std.proofs.Common.{Bool, List, Some, [], ap, arith, cond, false, inl, inr, length, not, refl, suc, true, zero, ℕ, ◌&&◌, ◌*◌, ◌++◌, ◌+◌, ◌-◌, ◌<◌, ◌^◌, ◌||◌, ◌∙◌, ◌∷◌, ◌≡◌, ◌≤◌}
use Rattle.std.proofs.Math.Nat.{pow-suc}
use Rattle.std.proofs.lemmas.Bool.Decides.{eqb_tells}
use Rattle.std.proofs.lemmas.Nat.{pow_pos}
use Rattle.std.specs.Prelude.{nat_eq, slice_get}
use Rattle.gate_net.specs.Net.{HasSources, IsKind, Net, source_count}
use Rattle.gate_net.specs.Values.{same_bool}
use Rattle.gate_net.specs.declared.Kind.TheVariants.{Source}
use Rattle.refutation.specs.Branches.{Branch, IsClosedOnSources, IsPartial, SplitsSource, clash, edges, here, items_of, line, quiet, split, splits, untried, untrieds}
use Rattle.refutation.specs.Facts.{Held, none_held, same_fact, with_fact}
use Rattle.refutation.specs.Laws.{EdgesAreCounted, PartialsAreSmall, UntriedsAreFew}
use Rattle.refutation.specs.Stack.{splits_among, untrieds_among}
use Rattle.refutation.specs.declared.items.Item.{Item}
use Rattle.refutation.specs.declared.items.Item.TheVariants.{Clash, Here, Line, Quiet, Split, Untried}
use Rattle.refutation.specs.declared.reasoning.Fact.{Fact}
use Rattle.refutation.specs.declared.reasoning.Fact.TheVariants.{Good}
use Rattle.rm_base.specs.declared.numbers.Fault.{Fault}

-- a list with every source
abbrev pub AreSources : Net → List ℕ → Type 0
AreSources net sources = (x : ℕ) → IsKind net x Source → (k : ℕ) × (slice_get sources k ≡ Some x)

abbrev pub numbers_from : ℕ → ℕ → List ℕ
numbers_from x zero = []
numbers_from x (suc n) = x ∷ numbers_from (suc x) n

length-numbers_from : (x n : ℕ) → length (numbers_from x n) ≡ n
length-numbers_from x zero = refl
length-numbers_from x (suc n) = ap suc (length-numbers_from (suc x) n)

number_at : (x n k : ℕ) → k < n → slice_get (numbers_from x n) k ≡ Some (x + k)
number_at x zero k h = absurd (omega arith)
number_at x (suc n) zero h = let e : x + 0 ≡ x = omega arith in rw e refl
number_at x (suc n) (suc k) h = let e : x + suc k ≡ suc x + k = omega arith in rw e (number_at (suc x) n k (omega arith))

sources_are : (net : Net) → HasSources net → AreSources net (numbers_from 2 (source_count net))
sources_are net has x source =
    let bounds : (2 ≤ x) × (x < 2 + source_count net) = has.only x source in
    let e : 2 + (x - 2) ≡ x = omega (arith, bounds.0) in
    (x - 2, number_at 2 (source_count net) (x - 2) (omega (arith, bounds.0, bounds.1)) ∙ ap Some e)

pub double : (n : ℕ) → 2 ^ (suc n + 1) ≡ 2 ^ (n + 1) + 2 ^ (n + 1)
double n = let e : suc n + 1 ≡ suc (n + 1) = omega arith in rw e (omega (arith, pow-suc 2 (n + 1)))

pub two_le : (n : ℕ) → 2 ≤ 2 ^ (n + 1)
two_le n = let e : n + 1 ≡ suc n = omega arith in rw e (omega (arith, pow-suc 2 n, pow_pos n))

-- EDGES
-- whether a source has no good fact yet
abbrev pub is_free : Held → ℕ → Bool
is_free held x = not (held x (Good false) || held x (Good true))

-- how many pass the test, by recursion: `count_by` is a fold from the left
abbrev pub counted : (ℕ → Bool) → List ℕ → ℕ
counted p [] = 0
counted p (x ∷ xs) = cond (p x) (suc (counted p xs)) (counted p xs)

pub fewer : (p q : ℕ → Bool) (xs : List ℕ) → ((x : ℕ) → q x ≡ true → p x ≡ true) → counted q xs ≤ counted p xs
fewer p q [] h = omega arith
fewer p q (x ∷ xs) h = at (fewer p q xs h) (p x) (q x) refl refl
  where
    at : counted q xs ≤ counted p xs → (b c : Bool) → p x ≡ b → q x ≡ c → counted q (x ∷ xs) ≤ counted p (x ∷ xs)
    at rest true true e f = rw (e, f) (omega arith)
    at rest true false e f = rw (e, f) (omega arith)
    at rest false true e f = let wrong : p x ≡ true = h x f in cc
    at rest false false e f = rw (e, f) (omega arith)

pub strictly_fewer : (p q : ℕ → Bool) (xs : List ℕ) (k y : ℕ) → ((x : ℕ) → q x ≡ true → p x ≡ true) → slice_get xs k ≡ Some y → p y ≡ true → q y ≡ false → counted q xs < counted p xs
strictly_fewer p q [] k y h e is isn't = cc
strictly_fewer p q (x ∷ xs) zero y h e is isn't =
    let same : x ≡ y = cc in
    let f : p x ≡ true = rw same is in
    let g : q x ≡ false = rw same isn't in
    rw (f, g) (omega (arith, fewer p q xs h))
strictly_fewer p q (x ∷ xs) (suc k) y h e is isn't = at (strictly_fewer p q xs k y h e is isn't) (p x) (q x) refl refl
  where
    at : counted q xs < counted p xs → (b c : Bool) → p x ≡ b → q x ≡ c → counted q (x ∷ xs) < counted p (x ∷ xs)
    at rest true true e' f = rw (e', f) (omega arith)
    at rest true false e' f = rw (e', f) (omega arith)
    at rest false true e' f = let wrong : p x ≡ true = h x f in cc
    at rest false false e' f = rw (e', f) (omega arith)

pub free_before : (held : Held) (x : ℕ) (fact : Fact) (y : ℕ) → is_free (with_fact held x fact) y ≡ true → is_free held y ≡ true
free_before held x fact y e = bools (nat_eq y x && same_fact (Good false) fact) (nat_eq y x && same_fact (Good true) fact) (held y (Good false)) (held y (Good true)) e
  where
    bools : (a b c d : Bool) → not ((a || c) || (b || d)) ≡ true → not (c || d) ≡ true
    bools true b c d e = cc
    bools false true true d e = cc
    bools false true false d e = cc
    bools false false c d e = e

pub taken_now : (held : Held) (x : ℕ) (b : Bool) → is_free (with_fact held x (Good b)) x ≡ false
taken_now held x b = elim (eqb_tells x x) [
  | inr t ↦ absurd (t.1 refl)
  | inl t ↦ rw t.0 (bools b (held x (Good false)) (held x (Good true)))
]
  where
    bools : (b c d : Bool) → not ((same_bool false b || c) || (same_bool true b || d)) ≡ false
    bools true true d = refl
    bools true false d = refl
    bools false c d = refl

module _ (net : Net) (fault : Fault) (sources : List ℕ) (all : AreSources net sources) where
  left : Held → ℕ
  left held = counted (is_free held) sources

  left_line : (held : Held) (x : ℕ) (fact : Fact) → left (with_fact held x fact) ≤ left held
  unfolding left
  left_line held x fact = fewer (is_free held) (is_free (with_fact held x fact)) sources (free_before held x fact)

  left_split : (held : Held) (x : ℕ) (b : Bool) → SplitsSource net held x → left (with_fact held x (Good b)) < left held
  unfolding left
  left_split held x b may =
      let there : (k : ℕ) × (slice_get sources k ≡ Some x) = all x may.0 in
      strictly_fewer (is_free held) (is_free (with_fact held x (Good b))) sources there.0 x (free_before held x (Good b)) there.1 (rw (may.1.0, may.1.1) refl) (taken_now held x b)

  closed_small : (t : Branch) (held : Held) (n : ℕ) → left held ≤ n → IsClosedOnSources net fault held t → 2 * splits t + 2 ≤ 2 ^ (n + 1)
  closed_small (line l t) held n h c = closed_small t (with_fact held c.0 c.1) n (let le : left (with_fact held c.0 c.1) ≤ left held = left_line held c.0 c.1 in omega arith) c.3
  closed_small (split x first t u) held zero h c = let lt : left (with_fact held x.0 (Good first)) < left held = left_split held x.0 first c.0 in absurd (omega arith)
  closed_small (split x first t u) held (suc n) h c =
      let lt : left (with_fact held x.0 (Good first)) < left held = left_split held x.0 first c.0 in
      let lu : left (with_fact held x.0 (Good (not first))) < left held = left_split held x.0 (not first) c.0 in
      let a : 2 * splits t + 2 ≤ 2 ^ (n + 1) = closed_small t (with_fact held x.0 (Good first)) n (omega arith) c.1 in
      let b : 2 * splits u + 2 ≤ 2 ^ (n + 1) = closed_small u (with_fact held x.0 (Good (not first))) n (omega arith) c.2 in
      let twice : 2 ^ (suc n + 1) ≡ 2 ^ (n + 1) + 2 ^ (n + 1) = double n in
      omega arith
  closed_small (clash x) held n h c = omega (arith, two_le n)
  closed_small quiet held n h c = omega (arith, two_le n)
  closed_small here held n h c = absurd c
  closed_small untried held n h c = absurd c

  partial_small : (t : Branch) (held : Held) (n : ℕ) → left held ≤ n → IsPartial net fault held t → edges t + 2 ≤ 2 ^ (n + 1)
  partial_small (line l t) held n h c = partial_small t (with_fact held c.0 c.1) n (let le : left (with_fact held c.0 c.1) ≤ left held = left_line held c.0 c.1 in omega arith) c.3
  partial_small (split x first t u) held zero h c = let lt : left (with_fact held x.0 (Good first)) < left held = left_split held x.0 first c.0 in absurd (omega arith)
  partial_small (split x first t u) held (suc n) h c =
      let lt : left (with_fact held x.0 (Good first)) < left held = left_split held x.0 first c.0 in
      let lu : left (with_fact held x.0 (Good (not first))) < left held = left_split held x.0 (not first) c.0 in
      let twice : 2 ^ (suc n + 1) ≡ 2 ^ (n + 1) + 2 ^ (n + 1) = double n in
      let two : 2 ≤ 2 ^ (n + 1) = two_le n in
      elim c.1 [
        | inl open' ↦
            let a : edges t + 2 ≤ 2 ^ (n + 1) = partial_small t (with_fact held x.0 (Good first)) n (omega arith) open'.0 in
            rw open'.1 (omega arith)
        | inr closed ↦
            let a : 2 * splits t + 2 ≤ 2 ^ (n + 1) = closed_small t (with_fact held x.0 (Good first)) n (omega arith) closed.0 in
            let b : edges u + 2 ≤ 2 ^ (n + 1) = partial_small u (with_fact held x.0 (Good (not first))) n (omega arith) closed.1 in
            omega arith
      ]
  partial_small here held n h c = omega (arith, two_le n)
  partial_small (clash x) held n h c = absurd c
  partial_small quiet held n h c = absurd c
  partial_small untried held n h c = absurd c

  closed_none : (t : Branch) (held : Held) → IsClosedOnSources net fault held t → untrieds t ≡ 0
  closed_none (line l t) held c = closed_none t (with_fact held c.0 c.1) c.3
  closed_none (split x first t u) held c =
      let a : untrieds t ≡ 0 = closed_none t (with_fact held x.0 (Good first)) c.1 in
      let b : untrieds u ≡ 0 = closed_none u (with_fact held x.0 (Good (not first))) c.2 in
      omega arith
  closed_none (clash x) held c = refl
  closed_none quiet held c = refl
  closed_none here held c = absurd c
  closed_none untried held c = absurd c

  partial_untrieds : (t : Branch) (held : Held) → IsPartial net fault held t → untrieds t ≤ left held
  partial_untrieds (line l t) held c =
      let le : left (with_fact held c.0 c.1) ≤ left held = left_line held c.0 c.1 in
      let rest : untrieds t ≤ left (with_fact held c.0 c.1) = partial_untrieds t (with_fact held c.0 c.1) c.3 in
      omega arith
  partial_untrieds (split x first t u) held c =
      let lt : left (with_fact held x.0 (Good first)) < left held = left_split held x.0 first c.0 in
      let lu : left (with_fact held x.0 (Good (not first))) < left held = left_split held x.0 (not first) c.0 in
      elim c.1 [
        | inl open' ↦
            let a : untrieds t ≤ left (with_fact held x.0 (Good first)) = partial_untrieds t (with_fact held x.0 (Good first)) open'.0 in
            rw open'.1 (omega arith)
        | inr closed ↦
            let a : untrieds t ≡ 0 = closed_none t (with_fact held x.0 (Good first)) closed.0 in
            let b : untrieds u ≤ left (with_fact held x.0 (Good (not first))) = partial_untrieds u (with_fact held x.0 (Good (not first))) closed.1 in
            omega arith
      ]
  partial_untrieds here held c = omega arith
  partial_untrieds (clash x) held c = absurd c
  partial_untrieds quiet held c = absurd c
  partial_untrieds untried held c = absurd c

pub count_le : (p : ℕ → Bool) (xs : List ℕ) → counted p xs ≤ length xs
count_le p [] = omega arith
count_le p (x ∷ xs) = at (count_le p xs) (p x) refl
  where
    at : counted p xs ≤ length xs → (b : Bool) → p x ≡ b → counted p (x ∷ xs) ≤ length (x ∷ xs)
    at rest true e = rw e (omega arith)
    at rest false e = rw e (omega arith)

pub partials_are_small : PartialsAreSmall
unfolding left
partials_are_small net fault t has partial =
    let e : length (numbers_from 2 (source_count net)) ≡ source_count net = length-numbers_from 2 (source_count net) in
    rw (← e) (partial_small net fault (numbers_from 2 (source_count net)) (sources_are net has) t none_held (length (numbers_from 2 (source_count net))) (count_le (is_free none_held) (numbers_from 2 (source_count net))) partial)

splits-append : (xs ys : List Item) → splits_among (xs ++ ys) ≡ splits_among xs + splits_among ys
splits-append [] ys = omega arith
splits-append (Line l ∷ xs) ys = splits-append xs ys
splits-append (Split x first ∷ xs) ys = omega (arith, splits-append xs ys)
splits-append (Clash x ∷ xs) ys = splits-append xs ys
splits-append (Quiet ∷ xs) ys = splits-append xs ys
splits-append (Here ∷ xs) ys = splits-append xs ys
splits-append (Untried ∷ xs) ys = splits-append xs ys

untrieds-append : (xs ys : List Item) → untrieds_among (xs ++ ys) ≡ untrieds_among xs + untrieds_among ys
untrieds-append [] ys = omega arith
untrieds-append (Line l ∷ xs) ys = untrieds-append xs ys
untrieds-append (Split x first ∷ xs) ys = untrieds-append xs ys
untrieds-append (Clash x ∷ xs) ys = untrieds-append xs ys
untrieds-append (Quiet ∷ xs) ys = untrieds-append xs ys
untrieds-append (Here ∷ xs) ys = untrieds-append xs ys
untrieds-append (Untried ∷ xs) ys = omega (arith, untrieds-append xs ys)

pub splits_counted : (t : Branch) → splits_among (items_of t) ≡ splits t
splits_counted (line l t) = splits_counted t
splits_counted (split x first t u) = omega (arith, splits-append (items_of t) (items_of u), splits_counted t, splits_counted u)
splits_counted (clash x) = refl
splits_counted quiet = refl
splits_counted here = refl
splits_counted untried = refl

pub untrieds_counted : (t : Branch) → untrieds_among (items_of t) ≡ untrieds t
untrieds_counted (line l t) = untrieds_counted t
untrieds_counted (split x first t u) = untrieds-append (items_of t) (items_of u) ∙ omega (arith, untrieds_counted t, untrieds_counted u)
untrieds_counted (clash x) = refl
untrieds_counted quiet = refl
untrieds_counted here = refl
untrieds_counted untried = refl

pub edges_are_counted : EdgesAreCounted
edges_are_counted t = rw (splits_counted t, untrieds_counted t) refl

pub untrieds_are_few : UntriedsAreFew
unfolding left
untrieds_are_few net fault items has accepted =
    let t : Branch = accepted.0 in
    let sources : List ℕ = numbers_from 2 (source_count net) in
    let size : length sources ≡ source_count net = length-numbers_from 2 (source_count net) in
    let few : untrieds t ≤ counted (is_free none_held) sources = partial_untrieds net fault sources (sources_are net has) t none_held accepted.1.1 in
    rw (accepted.1.0, untrieds_counted t) (omega (arith, count_le (is_free none_held) sources))
