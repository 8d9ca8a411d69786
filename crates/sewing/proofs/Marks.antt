-- The least free lead by marks: a mark for each number whose lead begins a name.
use Rattle.std.proofs.Common.{◌≡◌, ◌≢◌, ◌≤◌, ◌<◌, ◌+◌, ◌-◌, ◌*◌, ◌^◌, ℕ, zero, suc, Bool, true, false, not, ◌&&◌, ◌||◌, List, [], ◌∷◌, ◌++◌, length, refl, sym, ◌∙◌, ap, ap₂, subst, drop, ◌⊎◌, ◌/◌, ◌%◌, arith, nat_eq, inl, inr, min}
use Rattle.std.specs.Prelude.{Some, if◌then◌else◌, slice_get, slice_set}
use Rattle.std.specs.Fmt.{decimal}
use Rattle.std.specs.List.{list_any, starts_with}
use Rattle.std.proofs.lemmas.Fmt.{decimal_by_steps}
use Rattle.std.proofs.lemmas.Bool.{le-ltb}
use Rattle.std.proofs.lemmas.Bool.Decides.{eqb_tells}
use Rattle.std.proofs.lemmas.Option.{slice_get_within}
use Rattle.std.proofs.lemmas.Slice.Eq.{bytes_eq-Decides}
use Rattle.rm_model.specs.Words.{is_word}
use Rattle.rm_base.specs.Words.{Word}
use Rattle.rm_base.proofs.Public.{drop_end, set_other, stands_below, drop_stands}
use Rattle.sewing.specs.Names.{free_from, free_number, numbered_lead}
use Rattle.sewing.specs.Inner.Making.{AreMarkedBy, AreMarks, has_lead, head_of, unmarked_from, value_from, with_digit}
use Rattle.sewing.proofs.Leads.{NoBar, begins_at, no_bar-decimal}

differ : (b c : ℕ) → b ≢ c → nat_eq b c ≡ false
differ b c ne = elim (eqb_tells b c) [ inl t ↦ absurd (ne t.1) | inr f ↦ f.0 ]

-- a text without `_` and one behind it are the head exactly where the name begins with both
head-begins : (w : Word) → NoBar w → (x : Word) → is_word (w ++ 95 ∷ []) (head_of x) ≡ starts_with nat_eq x (w ++ 95 ∷ [])
unfolding NoBar
head-begins [] bars [] = refl
head-begins (b ∷ bs) bars [] = refl
head-begins [] bars (c ∷ cs) = elim (eqb_tells c 95) [
  | inl same ↦ rw same.1 refl
  | inr other ↦ rw other.0 (ap (λ (t : Bool). t && is_word [] (head_of cs)) (differ 95 c (λ e. other.1 (sym e))) ∙ sym (ap (λ (t : Bool). t && true) (differ 95 c (λ e. other.1 (sym e)))))
]
head-begins (b ∷ bs) bars (c ∷ cs) = elim (eqb_tells c 95) [
  | inl same ↦ rw same.1 (ap (λ (t : Bool). t && is_word (bs ++ 95 ∷ []) []) (differ b 95 bars.0) ∙ sym (ap (λ (t : Bool). t && starts_with nat_eq cs (bs ++ 95 ∷ [])) (differ b 95 bars.0)))
  | inr other ↦ rw other.0 (ap (λ (t : Bool). nat_eq b c && t) (head-begins bs bars.1 cs))
]

lead-begins : (t : ℕ) → t < 2 ^ 64 → (x : Word) → has_lead t x ≡ begins_at t x
unfolding NoBar
lead-begins t small x = head-begins (119 ∷ decimal t) ((λ (e : 119 ≡ 95). let f : ⊥ = omega arith in f), no_bar-decimal t small) x

-- THE NUMBER OF A LEAD

value-append : (v : ℕ) (xs ys : Word) → value_from v (xs ++ ys) ≡ value_from (value_from v xs) ys
value-append v [] ys = refl
value-append v (x ∷ xs) ys = value-append (with_digit v x) xs ys

digit-behind : (v d : ℕ) → d < 10 → with_digit v (48 + d) ≡ min (2 ^ 64 - 1) (min (2 ^ 64 - 1) (v * 10) + (48 + d - 48))
digit-behind v d less = rw (le-ltb (48 + d) 48 (omega arith), le-ltb 57 (48 + d) (omega arith)) refl

one-digit : (n : ℕ) → n < 10 → n < 2 ^ 64 → value_from 0 ((48 + n) ∷ []) ≡ n
one-digit n less small = digit-behind 0 n less ∙ omega (arith, less)

more-digits : (n : ℕ) (ds : Word) → 10 ≤ n → (n / 10 < 2 ^ 64 → value_from 0 ds ≡ n / 10) → n < 2 ^ 64 → value_from 0 (ds ++ ((48 + n % 10) ∷ [])) ≡ n
more-digits n ds more had small =
    value-append 0 ds ((48 + n % 10) ∷ []) ∙ (ap (λ (v : ℕ). with_digit v (48 + n % 10)) (had (omega (arith, small))) ∙ (digit-behind (n / 10) (n % 10) (omega arith) ∙ whole))
  where
    whole : min (2 ^ 64 - 1) (min (2 ^ 64 - 1) (n / 10 * 10) + (48 + n % 10 - 48)) ≡ n
    whole = omega (arith, small)

value-decimal : (n : ℕ) → n < 2 ^ 64 → value_from 0 (decimal n) ≡ n
value-decimal n small = decimal_by_steps (λ m ds. m < 2 ^ 64 → value_from 0 ds ≡ m) one-digit more-digits n small small

value-lead : (n : ℕ) → n < 2 ^ 64 → value_from 0 (numbered_lead n) ≡ n
value-lead n small = value-append 0 (decimal n) (95 ∷ []) ∙ value-decimal n small

-- a head that isn't this number's lead is none of another number with its value
other-number : (name : Word) (number t : ℕ) → t < 2 ^ 64 → number ≡ value_from 0 (head_of name) → t ≢ number → has_lead t name ≡ false
other-number name number t small value ne = told (has_lead t name) refl
  where
    told : (b : Bool) → has_lead t name ≡ b → b ≡ false
    told false e = refl
    told true e =
        let same : numbered_lead t ≡ head_of name = (bytes_eq-Decides (numbered_lead t) (head_of name)).0 e in
        absurd (ne (sym (value ∙ (ap (value_from 0) (sym same) ∙ value-lead t small))))

-- MARKS

or-none : (b : Bool) → b ≡ (b || false)
or-none true = refl
or-none false = refl

or-all : (b : Bool) → true ≡ (b || true)
or-all true = refl
or-all false = refl

or-three : (a b c : Bool) → (a || (b || c)) ≡ ((a || b) || c)
or-three true b c = refl
or-three false b c = refl

set-at : {A : Type 0} (xs : List A) (p : ℕ) (a x : A) → slice_get (slice_set xs p a) p ≡ Some x → a ≡ x
set-at [] zero a x e = absurd cc
set-at [] (suc p) a x e = absurd cc
set-at (y ∷ ys) zero a x e = cc
set-at (y ∷ ys) (suc p) a x e = set-at ys p a x e

module _ (name : Word) (marks : List Bool) (number : ℕ) (value : number ≡ value_from 0 (head_of name)) (few : length marks < 2 ^ 63) where
  kept-mark : (t : ℕ) (b : Bool) → slice_get marks t ≡ Some b → t ≢ number → (a : Bool) × ((slice_get marks t ≡ Some a) × (b ≡ (a || has_lead t name)))
  kept-mark t b at ne = let below : t < length marks = slice_get_within marks t b at in (b, (at, or-none b ∙ ap (λ (c : Bool). b || c) (sym (other-number name number t (omega (arith, below, few)) value ne))))

  -- the number is too great for a mark
  pub far-number : length marks ≤ number → AreMarkedBy (λ t. has_lead t name) marks marks
  far-number far t b at = kept-mark t b at (λ e. let below : t < length marks = slice_get_within marks t b at in omega (arith, below, far, e))

  pub other-text : has_lead number name ≡ false → AreMarkedBy (λ t. has_lead t name) marks marks
  other-text not_this t b at = by_number (eqb_tells t number)
    where
      by_number : ((nat_eq t number ≡ true) × (t ≡ number)) ⊎ ((nat_eq t number ≡ false) × (t ≢ number)) → (a : Bool) × ((slice_get marks t ≡ Some a) × (b ≡ (a || has_lead t name)))
      by_number (inl same) = (b, (at, or-none b ∙ ap (λ (c : Bool). b || c) (sym (ap (λ (k : ℕ). has_lead k name) same.1 ∙ not_this))))
      by_number (inr other) = kept-mark t b at other.1

  pub this-text : number < length marks → has_lead number name ≡ true → AreMarkedBy (λ t. has_lead t name) marks (slice_set marks number true)
  this-text below is t b at = by_number (eqb_tells t number)
    where
      by_number : ((nat_eq t number ≡ true) × (t ≡ number)) ⊎ ((nat_eq t number ≡ false) × (t ≢ number)) → (a : Bool) × ((slice_get marks t ≡ Some a) × (b ≡ (a || has_lead t name)))
      by_number (inl same) =
          let old = stands_below marks number below in
          let now : true ≡ b = set-at marks number true b (subst (λ (k : ℕ). slice_get (slice_set marks number true) k ≡ Some b) same.1 at) in
          (old.0, (ap (slice_get marks) same.1 ∙ old.1, sym now ∙ (or-all old.0 ∙ ap (λ (c : Bool). old.0 || c) (sym (ap (λ (k : ℕ). has_lead k name) same.1 ∙ is)))))
      by_number (inr other) = kept-mark t b (sym (set_other marks number t true other.1) ∙ at) other.1

pub marks-go : (names : List Word) (i : ℕ) (name : Word) (marks after : List Bool) (t : ℕ) (b : Bool) → slice_get names i ≡ Some name → AreMarkedBy (λ t. has_lead t name) marks after
    → ((t : ℕ) (b : Bool) → slice_get marks t ≡ Some b → list_any (has_lead t) names ≡ (b || list_any (has_lead t) (drop i names))) → slice_get after t ≡ Some b
    → list_any (has_lead t) names ≡ (b || list_any (has_lead t) (drop (i + 1) names))
marks-go names i name marks after t b at are had there =
    let old = are t b there in
    let next : i + 1 ≡ suc i = omega arith in
    had t old.0 old.1.0
    ∙ (ap (λ (xs : List Word). old.0 || list_any (has_lead t) xs) (drop_stands names i name at ∙ ap (λ (k : ℕ). name ∷ drop k names) (sym next))
    ∙ (or-three old.0 (has_lead t name) (list_any (has_lead t) (drop (i + 1) names))
    ∙ ap (λ (c : Bool). c || list_any (has_lead t) (drop (i + 1) names)) (sym old.1.1)))

pub marks-end : (names : List Word) (i t : ℕ) (b : Bool) → length names ≤ i → list_any (has_lead t) names ≡ (b || list_any (has_lead t) (drop i names)) → b ≡ list_any (has_lead t) names
marks-end names i t b far had = or-none b ∙ sym (had ∙ ap (λ (xs : List Word). b || list_any (has_lead t) xs) (drop_end names i far))

any-same : (f g : Word → Bool) (xs : List Word) → ((x : Word) → f x ≡ g x) → list_any f xs ≡ list_any g xs
any-same f g [] h = refl
any-same f g (x ∷ xs) h = ap₂ (λ (a b : Bool). a || b) (h x) (any-same f g xs h)

-- the first number without a mark is the least that is free
unmarked-from : (names : List Word) (marks : List Bool) (t : ℕ) → t + length marks < 2 ^ 64 → ((i : ℕ) (b : Bool) → slice_get marks i ≡ Some b → b ≡ list_any (has_lead (t + i)) names) → unmarked_from t marks ≡ free_from (length marks) names t
unmarked-from names [] t small are = refl
unmarked-from names (b ∷ bs) t small are =
    by_case b (list_any (begins_at t) names)
    (are zero b refl ∙ (ap (λ (k : ℕ). list_any (has_lead k) names) (none-more t) ∙ any-same (has_lead t) (begins_at t) names (lead-begins t (omega (arith, small)))))
    (unmarked-from names bs (t + 1) (omega (arith, small)) (λ i c at. are (suc i) c at ∙ ap (λ (k : ℕ). list_any (has_lead k) names) (one-more t i)))
  where
    none-more : (t : ℕ) → t + 0 ≡ t
    none-more t = omega arith

    one-more : (t i : ℕ) → t + suc i ≡ (t + 1) + i
    one-more t i = omega arith

    by_case : (a c : Bool) → a ≡ c → unmarked_from (t + 1) bs ≡ free_from (length bs) names (t + 1)
        → (if a then unmarked_from (t + 1) bs else t) ≡ (if not c then t else free_from (length bs) names (t + 1))
    by_case true true e later = later
    by_case false false e later = refl
    by_case true false e later = absurd cc
    by_case false true e later = absurd cc

pub unmarked-free : (names : List Word) (marks : List Bool) → length marks ≡ length names → length marks < 2 ^ 63 → AreMarks marks names → unmarked_from 0 marks ≡ free_number names
unmarked-free names marks count small are =
    unmarked-from names marks 0 (omega (arith, small)) (λ i b at. are i b at ∙ ap (λ (k : ℕ). list_any (has_lead k) names) (zero-more i)) ∙ ap (λ (n : ℕ). free_from n names 0) count
  where
    zero-more : (i : ℕ) → i ≡ 0 + i
    zero-more i = omega arith

pub not-so : (b : Bool) → true ≡ not b → b ≡ false
not-so false e = refl
not-so true e = cc

pub is-so : (b : Bool) → false ≡ not b → b ≡ true
is-so true e = refl
is-so false e = cc
