-- Sums of the lengths of lists, and how many pins are linked.
use Rattle.std.proofs.Common.{◌≡◌, ◌≢◌, ℕ, zero, suc, ◌+◌, ◌-◌, ◌<◌, ◌≤◌, true, false, Bool, cond, inl, inr, List, [], ◌∷◌, ◌++◌, length, set, refl, sym, ap, ◌∙◌, arith, length-append, length-set, Some, None, Option, get_or-set_same, get_or-set_other, subst}
use Rattle.std.specs.FinSet as finset
use Rattle.std.specs.Ordering.{nat_cmp}
use Rattle.std.specs.Cmp.{nat_cmp_total, unsigned_tied}
use Rattle.std.specs.FinSet.{contains-remove, len-remove, empty_of_len, contains-empty}
use Rattle.std.proofs.lemmas.Bool.{cases_eq, cases_lt, ne_eqb, eq-eqb, false≢true, false_from_ne_true, or_left, or_right, or_cases}
use Rattle.std.proofs.lemmas.Bool.Decides.{nat_tests}
use Rattle.std.proofs.lemmas.List.{get_or_past}
use Rattle.pin_pool.specs.Ring.{has, without, IsApart}
use Rattle.pin_pool.specs.Pins.{Pins, list_of, put_after, put_behind}
use Rattle.pin_pool.specs.declared.names.PinNo.{PinNo}
use Rattle.pin_pool.specs.Rings.{rings_of, AreRings, IsIn, IsValid, changed, all_without}
use Rattle.pin_pool.specs.Totals.{pins_from, linked_pins}
use Rattle.pin_pool.specs.Inner.Totals.{count_at, IsCounted, listed_pins}
use Rattle.pin_pool.proofs.PoolLemmas.{has-append}
use Rattle.pin_pool.proofs.RingLemmas.{without-absent}
use Rattle.pin_pool.proofs.RingsOf.{changed-other, changed-same, has-within}

-- SUMS OF LENGTHS
pub pins-more : (f : ℕ → List ℕ) (first n : ℕ) → pins_from f first (n + 1) ≡ pins_from f first n + length (f (first + n))
pins-more f first zero = let e : first ≡ first + 0 = omega arith in rw (← e) (omega arith)
pins-more f first (suc n) =
    let e : suc first + n ≡ first + suc n = omega arith in
    let rest : pins_from f (suc first) (n + 1) ≡ pins_from f (suc first) n + length (f (first + suc n)) = pins-more f (suc first) n ∙ ap (λ (k : ℕ). pins_from f (suc first) n + length (f k)) e in
    let t : suc n + 1 ≡ suc (n + 1) = omega arith in
    rw t (omega (arith, rest))

pub no-pins-from : (f : ℕ → List ℕ) (first n : ℕ) → ((k m : ℕ) → m ≡ first + k → length (f m) ≡ 0) → pins_from f first n ≡ 0
no-pins-from f first zero h = refl
no-pins-from f first (suc n) h = omega (arith, h 0 first (omega arith), no-pins-from f (suc first) n (λ k m e. h (suc k) m (omega arith)))

pub pins-split : (f : ℕ → List ℕ) (first n k : ℕ) → pins_from f first (n + k) ≡ pins_from f first n + pins_from f (first + n) k
pins-split f first zero k = let e : first ≡ first + 0 = omega arith in let z : 0 + k ≡ k = omega arith in rw z (omega (arith, ap (λ m. pins_from f m k) e))
pins-split f first (suc n) k =
    let e : suc first + n ≡ first + suc n = omega arith in
    let t : suc n + k ≡ suc (n + k) = omega arith in
    rw t (omega (arith, pins-split f (suc first) n k, ap (λ m. pins_from f m k) e))

pins-alike : (f g : ℕ → List ℕ) (first n : ℕ) → ((x : ℕ) → first ≤ x → length (g x) ≡ length (f x)) → pins_from g first n ≡ pins_from f first n
pins-alike f g first zero h = refl
pins-alike f g first (suc n) h = omega (arith, h first (omega arith), pins-alike f g (suc first) n (λ x le. h x (omega arith)))

pub pins-at : (f g : ℕ → List ℕ) (m k first n : ℕ) → first ≤ m → m < first + n → length (g m) ≡ length (f m) + k → ((x : ℕ) → x ≢ m → length (g x) ≡ length (f x)) → pins_from g first n ≡ pins_from f first n + k
pins-at f g m k first zero le lt at others = absurd (omega arith)
pins-at f g m k first (suc n) le lt at others = elim (cases_eq first m) [
  | inl is ↦
      let here : length (g first) ≡ length (f first) + k = rw is at in
      let rest = pins-alike f g (suc first) n (λ x less. others x (λ e. absurd (omega arith))) in
      omega (arith, here, rest)
  | inr ne ↦
      let rest = pins-at f g m k (suc first) n (omega arith) (omega arith) at others in
      omega (arith, rest, others first ne)
]

pub length-without : (p : ℕ) (xs : List ℕ) → has p xs ≡ true → length (without p xs) + 1 ≡ length xs
length-without p [] h = cc
length-without p (x ∷ xs) h = elim (cases_eq p x) [
  | inl is ↦ rw (eq-eqb p x is) (omega arith)
  | inr ne ↦
      let later : has p xs ≡ true = rw (ne_eqb p x ne) at h in
      rw (ne_eqb p x ne) (omega (arith, length-without p xs later))
]

length-put : (xs : List ℕ) (a p : ℕ) → length (put_behind xs a p) ≡ length xs + 1
length-put [] a p = refl
length-put (x ∷ xs) a p = elim (cases_eq x a) [
  | inl is ↦ rw (eq-eqb x a is) (omega arith)
  | inr ne ↦ rw (ne_eqb x a ne) (omega (arith, length-put xs a p))
]

pub length-put_after : (xs : List ℕ) (b : Option PinNo) (p : ℕ) → length (put_after xs b p) ≡ length xs + 1
length-put_after xs None p = omega arith
length-put_after xs (Some a) p = length-put xs a.0 p

-- THE PINS OF LISTS ARE FEW
pub length-listed : (f : ℕ → List ℕ) (first n : ℕ) → length (listed_pins f first n) ≡ pins_from f first n
length-listed f first zero = refl
length-listed f first (suc n) = length-append (f first) (listed_pins f (suc first) n) ∙ ap (λ k. length (f first) + k) (length-listed f (suc first) n)

pub in-listed : (f : ℕ → List ℕ) (first n q : ℕ) → has q (listed_pins f first n) ≡ true → (m : ℕ) × ((first ≤ m) × (has q (f m) ≡ true))
in-listed f first zero q h = cc
in-listed f first (suc n) q h = elim (or_cases (has q (f first)) (has q (listed_pins f (suc first) n)) (sym (has-append (f first) (listed_pins f (suc first) n) q) ∙ h)) [
  | inl here ↦ (first, (omega arith, here))
  | inr later ↦ let rest = in-listed f (suc first) n q later in (rest.0, ((let le = rest.1.0 in omega (arith, le)), rest.1.1))
]

apart-append : (xs ys : List ℕ) → IsApart xs → IsApart ys → ((q : ℕ) → has q xs ≡ true → has q ys ≡ false) → IsApart (xs ++ ys)
apart-append [] ys a b h = b
apart-append (x ∷ xs) ys a b h = (
  has-append xs ys x ∙ rw (a.0, h x (or_left _ _ (eq-eqb x x refl))) refl,
  apart-append xs ys a.1 b (λ q k. h q (or_right _ _ k)),
)

apart-listed : (f : ℕ → List ℕ) → ((n : ℕ) → IsApart (f n)) → ((m n q : ℕ) → has q (f m) ≡ true → has q (f n) ≡ true → m ≡ n) → (first n : ℕ) → IsApart (listed_pins f first n)
apart-listed f each one first zero = tt
apart-listed f each one first (suc n) = apart-append (f first) (listed_pins f (suc first) n) (each first) (apart-listed f each one (suc first) n) (λ q h. false_from_ne_true _ (λ k. (
    let at = in-listed f (suc first) n q k in
    let is = one first at.0 q h at.1.1 in
    let le = at.1.0 in omega (arith, is, le))))

pub len-one_less : (s : finset.FinSet nat_cmp) (p : ℕ) → finset.contains s p ≡ true → finset.len (finset.remove s p) + 1 ≡ finset.len s
len-one_less s p in' =
    let less : finset.len (finset.remove s p) ≡ finset.len s - 1 = len-remove nat_cmp_total s p ∙ ap (λ (b : Bool). cond b (finset.len s - 1) (finset.len s)) in' in
    elim (cases_lt 0 (finset.len s)) [
      | inl some ↦ omega (arith, less, some)
      | inr none ↦
          let empty : s ≡ finset.empty = empty_of_len s (omega (arith, none)) in
          absurd (false≢true (sym (contains-empty nat_cmp p) ∙ ap (λ (t : finset.FinSet nat_cmp). finset.contains t p) (sym empty) ∙ in'))
    ]

-- numbers of a set, none twice, are no more than the set has
pub within-set : (s : finset.FinSet nat_cmp) (xs : List ℕ) → IsApart xs → ((q : ℕ) → has q xs ≡ true → finset.contains s q ≡ true) → length xs ≤ finset.len s
within-set s [] a h = omega arith
within-set s (x ∷ xs) a h =
    let there = h x (or_left _ _ (eq-eqb x x refl)) in
    let less = len-one_less s x there in
    let rest = within-set (finset.remove s x) xs a.1 (λ q k. (
    let ne : q ≢ x = λ is. false≢true (sym a.0 ∙ ap (λ (r : ℕ). has r xs) (sym is) ∙ k) in
    let read = contains-remove nat_cmp_total s x q in
    let was = h q (or_right _ _ k) in
    grind (arith, nat_tests, read, unsigned_tied q x, was, ne))) in
    omega (arith, less, rest)

pub pins-few : (v : Pins) → AreRings (rings_of v) → (first n : ℕ) → pins_from (λ m. list_of v.inputs m) first n ≤ finset.len v.taken
pins-few v r first n =
    let f : ℕ → List ℕ = λ m. list_of v.inputs m in
    let all = within-set v.taken (listed_pins f first n) (apart-listed f r.inputs.apart r.inputs.one first n) (λ q h. (let at = in-listed f first n q h in r.inputs.members at.0 q at.1.1)) in
    omega (arith, all, length-listed f first n)

-- THE LINKED PINS
-- whatever bound is taken
pub pins-bound : (lists : List (List ℕ)) (n : ℕ) → length lists ≤ n → pins_from (λ m. list_of lists m) 0 n ≡ pins_from (λ m. list_of lists m) 0 (length lists)
pins-bound lists n le =
    let e : n ≡ length lists + (n - length lists) = omega arith in
    let none = no-pins-from (λ m. list_of lists m) (0 + length lists) (n - length lists) (λ k m at. ap length (get_or_past lists m [] (omega arith))) in
    ap (λ k. pins_from (λ m. list_of lists m) 0 k) e ∙ omega (arith, pins-split (λ m. list_of lists m) 0 (length lists) (n - length lists), none)

module _ (v w : Pins) (size : length w.inputs ≡ length v.inputs) where
  pub linked-over : (f : ℕ → List ℕ) → (rings_of w).inputs ≡ f → linked_pins w ≡ pins_from f 0 (length v.inputs)
  linked-over f e = ap (λ n. pins_from (λ m. list_of w.inputs m) 0 n) size ∙ ap (λ (g : ℕ → List ℕ). pins_from g 0 (length v.inputs)) e

  pub linked-same : (rings_of w).inputs ≡ (rings_of v).inputs → linked_pins w ≡ linked_pins v
  linked-same e = linked-over (rings_of v).inputs e

  -- a list is longer
  pub linked-more : (g k : ℕ) (xs : List ℕ) → (rings_of w).inputs ≡ changed (rings_of v).inputs g xs → g < length v.inputs → length xs ≡ length (list_of v.inputs g) + k → linked_pins w ≡ linked_pins v + k
  linked-more g k xs e within long =
      let f : ℕ → List ℕ = λ m. list_of v.inputs m in
      linked-over (changed f g xs) e ∙ pins-at f (changed f g xs) g k 0 (length v.inputs) (omega arith) (omega arith) (ap length (changed-same f g xs) ∙ long) (λ x ne. ap length (changed-other f g xs x ne))

  -- a pin goes
  pub linked-less : (p : ℕ) → AreRings (rings_of v) → (rings_of w).inputs ≡ all_without p (rings_of v).inputs → IsIn (rings_of v).inputs p → linked_pins w + 1 ≡ linked_pins v
  linked-less p r e at =
      let f : ℕ → List ℕ = λ m. list_of v.inputs m in
      let others : (x : ℕ) → x ≢ at.0 → length (f x) ≡ length (all_without p f x) = λ x ne. ap length (sym (without-absent p (f x) (false_from_ne_true _ (λ h. ne (r.inputs.one x at.0 p h at.1))))) in
      let here : length (f at.0) ≡ length (all_without p f at.0) + 1 = sym (length-without p (f at.0) at.1) in
      sym (pins-at (all_without p f) f at.0 1 0 (length v.inputs) (omega arith) (let lt = has-within v.inputs at.0 p at.1 in omega (arith, lt)) here others ∙ ap (λ n. n + 1) (sym (linked-over (all_without p f) e)))

-- THE COUNTS
pub count-few : (v : Pins) → IsValid v → (g : ℕ) → (length (list_of v.inputs g) ≤ 4294967295) × (linked_pins v ≤ 4294967295)
count-few v i g =
    let one = pins-few v i.rings g 1 in
    let all = pins-few v i.rings 0 (length v.inputs) in
    let few = i.few in
    (omega (arith, one, few), omega (arith, all, few))

-- a node that has an input has room, and is counted
pub count-some : (v : Pins) (g p : ℕ) → has p (list_of v.inputs g) ≡ true → 0 < length (list_of v.inputs g)
count-some v g p h = some (list_of v.inputs g) h
  where
    some : (xs : List ℕ) → has p xs ≡ true → 0 < length xs
    some [] k = cc
    some (x ∷ xs) k = omega arith

pub counted-same : (v w : Pins) (counts : List ℕ) (linked : ℕ) → length w.inputs ≡ length v.inputs → (rings_of w).inputs ≡ (rings_of v).inputs → IsCounted v counts linked → IsCounted w counts linked
counted-same v w counts linked size e i = record {
  each = λ n. i.each n ∙ sym (ap (λ (f : ℕ → List ℕ). length (f n)) e);
  room = omega (arith, i.room, size);
  all = i.all ∙ sym (linked-same v w size e);
}

counts-set : (counts : List ℕ) (g k n : ℕ) → g < length counts → count_at (set counts g k) n ≡ changed (λ (m : ℕ). count_at counts m) g k n
counts-set counts g k n h = elim (cases_eq n g) [
  | inl e ↦ rw e (get_or-set_same counts g k 0 h ∙ sym (changed-same (λ (m : ℕ). count_at counts m) g k))
  | inr e ↦ get_or-set_other counts g n k 0 e ∙ sym (changed-other (λ (m : ℕ). count_at counts m) g k n e)
]

-- the length of a list changes
counted-at : (v : Pins) (counts : List ℕ) (linked g k : ℕ) (f : ℕ → List ℕ) → IsCounted v counts linked → g < length counts → k ≡ length (f g) → ((x : ℕ) → x ≢ g → length (f x) ≡ length (list_of v.inputs x)) → (n : ℕ) → count_at (set counts g k) n ≡ length (f n)
counted-at v counts linked g k f i h here others n = counts-set counts g k n h ∙ elim (cases_eq n g) [
  | inl e ↦ rw e (changed-same (λ (m : ℕ). count_at counts m) g k ∙ here)
  | inr e ↦ changed-other (λ (m : ℕ). count_at counts m) g k n e ∙ i.each n ∙ sym (others n e)
]

pub counted-more : (v w : Pins) (counts : List ℕ) (linked linked' g : ℕ) (xs : List ℕ) → length w.inputs ≡ length v.inputs → (rings_of w).inputs ≡ changed (rings_of v).inputs g xs → g < length v.inputs → length xs ≡ length (list_of v.inputs g) + 1 → linked' ≡ linked + 1 → IsCounted v counts linked → IsCounted w (set counts g (count_at counts g + 1)) linked'
counted-more v w counts linked linked' g xs size e within long more i =
    let f : ℕ → List ℕ = λ m. list_of v.inputs m in
    let room = i.room in
    let here : count_at counts g + 1 ≡ length (changed f g xs g) = omega (arith, i.each g, long, ap length (changed-same f g xs)) in
    record {
      each = λ n. counted-at v counts linked g (count_at counts g + 1) (changed f g xs) i (omega (arith, within, room)) here (λ x ne. ap length (changed-other f g xs x ne)) n ∙ sym (ap (λ (h : ℕ → List ℕ). length (h n)) e);
      room = omega (arith, room, size, length-set counts g (count_at counts g + 1));
      all = omega (arith, i.all, more, linked-more v w size g 1 xs e within long);
    }

pub counted-less : (v w : Pins) (counts : List ℕ) (linked linked' g p : ℕ) → length w.inputs ≡ length v.inputs → AreRings (rings_of v) → (rings_of w).inputs ≡ all_without p (rings_of v).inputs → has p (list_of v.inputs g) ≡ true → linked' + 1 ≡ linked → IsCounted v counts linked → IsCounted w (set counts g (count_at counts g - 1)) linked'
counted-less v w counts linked linked' g p size r e at less i =
    let f : ℕ → List ℕ = λ m. list_of v.inputs m in
    let within = has-within v.inputs g p at in
    let room = i.room in
    let here : count_at counts g - 1 ≡ length (all_without p f g) = omega (arith, i.each g, length-without p (f g) at) in
    let others : (x : ℕ) → x ≢ g → length (all_without p f x) ≡ length (f x) = λ x ne. ap length (without-absent p (f x) (false_from_ne_true _ (λ h. ne (r.inputs.one x g p h at)))) in
    record {
      each = λ n. counted-at v counts linked g (count_at counts g - 1) (all_without p f) i (omega (arith, within, room)) here others n ∙ sym (ap (λ (h : ℕ → List ℕ). length (h n)) e);
      room = omega (arith, room, size, length-set counts g (count_at counts g - 1));
      all = omega (arith, i.all, less, linked-less v w size p r e (g, at));
    }

-- more nodes have room
pub counted-wider : (v w : Pins) (counts wider : List ℕ) (linked : ℕ) → (rings_of w).inputs ≡ (rings_of v).inputs → length v.inputs ≤ length w.inputs → length w.inputs ≤ length wider → ((n : ℕ) → count_at wider n ≡ count_at counts n) → IsCounted v counts linked → IsCounted w wider linked
counted-wider v w counts wider linked e more room same i = record {
  each = λ n. same n ∙ i.each n ∙ sym (ap (λ (f : ℕ → List ℕ). length (f n)) e);
  room = room;
  all = i.all ∙ sym (ap (λ (f : ℕ → List ℕ). pins_from f 0 (length w.inputs)) e ∙ pins-bound v.inputs (length w.inputs) more);
}

pub inputs-same : (v w : Pins) (counts : List ℕ) (linked : ℕ) → w.inputs ≡ v.inputs → IsCounted v counts linked → IsCounted w counts linked
inputs-same v w counts linked e i = counted-same v w counts linked (ap length e) (ap {B = ℕ → List ℕ} (λ (lists : List (List ℕ)) (n : ℕ). list_of lists n) e) i

-- THE CALLS THAT LINK
module _ (v w : Pins) (counts : List ℕ) (linked : ℕ) (i : IsCounted v counts linked) (g : ℕ) (within : g < length v.inputs) where
  -- there is a count, and room for one more
  module _ (xs : List ℕ) (valid : IsValid w) (size : length w.inputs ≡ length v.inputs) (e : (rings_of w).inputs ≡ changed (rings_of v).inputs g xs) (long : length xs ≡ length (list_of v.inputs g) + 1) where
    pub count-room : count_at counts g < 4294967295
    count-room =
        let few = (count-few w valid g).0 in
        let here : length (list_of w.inputs g) ≡ length xs = ap (λ (f : ℕ → List ℕ). length (f g)) e ∙ ap length (changed-same (λ (n : ℕ). list_of v.inputs n) g xs) in
        omega (arith, i.each g, few, here, long)

    pub linked-room : linked < 4294967295
    linked-room =
        let few = (count-few w valid g).1 in
        omega (arith, i.all, few, linked-more v w size g 1 xs e within long)

    pub counted-in : (counts' : List ℕ) (linked' : ℕ) → counts' ≡ set counts g (count_at counts g + 1) → linked' ≡ linked + 1 → IsCounted w counts' linked'
    counted-in counts' linked' same more = subst (λ (xs : List ℕ). IsCounted w xs linked') (sym same) (counted-more v w counts linked linked' g xs size e within long more i)

module _ (v w : Pins) (counts : List ℕ) (linked : ℕ) (i : IsCounted v counts linked) (g p : ℕ) (valid : IsValid v) (at : has p (list_of v.inputs g) ≡ true) where
  pub out-within : g < length counts
  out-within = let lt = has-within v.inputs g p at in let room = i.room in omega (arith, lt, room)

  pub out-some : 0 < count_at counts g
  out-some = let some = count-some v g p at in omega (arith, i.each g, some)

  module _ (size : length w.inputs ≡ length v.inputs) (e : (rings_of w).inputs ≡ all_without p (rings_of v).inputs) where
    pub linked-some : 0 < linked
    linked-some = omega (arith, i.all, linked-less v w size p valid.rings e (g, at))

    pub counted-out : (counts' : List ℕ) (linked' : ℕ) → counts' ≡ set counts g (count_at counts g - 1) → linked' + 1 ≡ linked → IsCounted w counts' linked'
    counted-out counts' linked' same less = subst (λ (xs : List ℕ). IsCounted w xs linked') (sym same) (counted-less v w counts linked linked' g p size valid.rings e at less i)
