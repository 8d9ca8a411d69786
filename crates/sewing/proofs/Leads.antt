-- Leads: the least one is free, and names behind one are told apart.
use Rattle.std.proofs.Common.{◌≡◌, ◌≢◌, ◌≤◌, ◌<◌, ◌+◌, ◌^◌, ℕ, zero, suc, Bool, true, false, cond, not, ◌&&◌, ◌||◌, List, [], ◌∷◌, ◌++◌, length, refl, sym, ◌∙◌, ap, subst, arith, append_assoc, nat_eq, inl, inr, ◌%◌}
use Rattle.std.specs.Prelude.{if◌then◌else◌}
use Rattle.std.specs.Fmt.{decimal}
use Rattle.std.specs.List.{list_any, starts_with}
use Rattle.std.proofs.lemmas.Fmt.{decimal_by_steps, decimal_injective}
use Rattle.std.proofs.lemmas.Bool.Decides.{eqb_tells}
use Rattle.std.proofs.Math.Bool.{not-not}
use Rattle.std.proofs.lemmas.Bool.{and_parts, eq-eqb}
use Rattle.std.proofs.lemmas.List.{append_cancel_left}
use Rattle.sewing.specs.Names.{inner_name, is_free, numbered_lead, free_from, free_number}
use Rattle.rm_base.proofs.Public.{any_in, not_excludes}
use Rattle.rm_base.specs.Members.{In}
use Rattle.rm_base.specs.Words.{Word}

-- what begins with a text is that text and more
pub begins : (p x : Word) → starts_with nat_eq x p ≡ true → (y : Word) × (x ≡ p ++ y)
begins [] x e = (x, refl)
begins (b ∷ bs) [] e = absurd cc
begins (b ∷ bs) (c ∷ cs) e =
    let both = and_parts _ _ e in
    let rest = begins bs cs both.1 in
    (rest.0, ap (λ (d : ℕ). d ∷ cs) (same b c both.0) ∙ ap (λ (ds : List ℕ). b ∷ ds) rest.1)
  where
    same : (b c : ℕ) → nat_eq b c ≡ true → c ≡ b
    same b c e = elim (eqb_tells b c) [ inl t ↦ sym t.1 | inr f ↦ let bad : true ≡ false = sym e ∙ f.0 in absurd cc ]

pub does-begin : (p r : Word) → starts_with nat_eq (p ++ r) p ≡ true
does-begin [] r = refl
does-begin (b ∷ bs) r = ap (λ (t : Bool). t && starts_with nat_eq (bs ++ r) bs) (eq-eqb b b refl) ∙ does-begin bs r

-- no name of the list is that lead and more
pub free-none : (names : List Word) (lead x y : Word) → is_free names lead ≡ true → In names x → x ≡ lead ++ y → ⊥
free-none names lead x y free there e =
    not_excludes (list_any (λ z. starts_with nat_eq z lead) names) free
    (any_in (λ z. starts_with nat_eq z lead) names x there (subst (λ (z : Word). starts_with nat_eq z lead ≡ true) (sym e) (does-begin lead y)))

-- NUMBERS BEFORE A `_`

unfoldable pub NoBar : Word → Type 0
NoBar [] = Unit {0}
NoBar (b ∷ bs) = (b ≢ 95) × NoBar bs

no_bar-append : (xs ys : Word) → NoBar xs → NoBar ys → NoBar (xs ++ ys)
unfolding NoBar
no_bar-append [] ys h k = k
no_bar-append (x ∷ xs) ys h k = (h.0, no_bar-append xs ys h.1 k)

no_bar_digit : (n : ℕ) → n < 10 → NoBar ((48 + n) ∷ [])
unfolding NoBar
no_bar_digit n h = ((λ (e : 48 + n ≡ 95). let f : ⊥ = omega arith in f), tt)

no_bar_more : (n : ℕ) (ds : Word) → 10 ≤ n → NoBar ds → NoBar (ds ++ ((48 + n % 10) ∷ []))
no_bar_more n ds h k = no_bar-append ds _ k (no_bar_digit (n % 10) (omega arith))

pub no_bar-decimal : (n : ℕ) → n < 2 ^ 64 → NoBar (decimal n)
no_bar-decimal = decimal_by_steps (λ n ds. NoBar ds) no_bar_digit no_bar_more

up_to_bar : (xs ys y z : Word) → NoBar xs → NoBar ys → xs ++ 95 ∷ y ≡ ys ++ 95 ∷ z → xs ≡ ys
unfolding NoBar
up_to_bar [] [] y z h k e = refl
up_to_bar [] (b ∷ bs) y z h k e = let same : 95 ≡ b = cc in absurd (k.0 (sym same))
up_to_bar (a ∷ xs) [] y z h k e = let same : a ≡ 95 = cc in absurd (h.0 same)
up_to_bar (a ∷ xs) (b ∷ ys) y z h k e =
    let first : a ≡ b = cc in
    let rest : xs ≡ ys = up_to_bar xs ys y z h.1 k.1 (cc) in
    cc

one_number : (s t : ℕ) (y z : Word) → s < 2 ^ 64 → t < 2 ^ 64 → decimal s ++ 95 ∷ y ≡ decimal t ++ 95 ∷ z → s ≡ t
one_number s t y z hs ht e = decimal_injective s t hs ht (up_to_bar (decimal s) (decimal t) y z (no_bar-decimal s hs) (no_bar-decimal t ht) e)

-- inner names of two parts differ
pub inner-numbers : (lead : Word) (j k : ℕ) (x y : Word) → j < 2 ^ 64 → k < 2 ^ 64 → inner_name lead j x ≡ inner_name lead k y → j ≡ k
inner-numbers lead j k x y hj hk e = one_number j k x y hj hk (append_cancel_left lead (decimal j ++ 95 ∷ x) (decimal k ++ 95 ∷ y) e)

-- THE LEAST FREE NUMBER

one_lead : (s t : ℕ) (y z : Word) → s < 2 ^ 64 → t < 2 ^ 64 → numbered_lead s ++ y ≡ numbered_lead t ++ z → s ≡ t
one_lead s t y z hs ht e =
    let tails : (decimal s ++ 95 ∷ []) ++ y ≡ (decimal t ++ 95 ∷ []) ++ z = cc in
    one_number s t y z hs ht (sym (append_assoc (decimal s) (95 ∷ []) y) ∙ (tails ∙ append_assoc (decimal t) (95 ∷ []) z))

abbrev pub begins_at : ℕ → Word → Bool
begins_at t x = starts_with nat_eq x (numbered_lead t)

other_lead : (s t : ℕ) (x : Word) → s < 2 ^ 64 → t < 2 ^ 64 → s ≢ t → begins_at t x ≡ true → begins_at s x ≡ false
other_lead s t x hs ht ne e = told (begins_at s x) refl
  where
    told : (b : Bool) → begins_at s x ≡ b → b ≡ false
    told true f =
        let one = begins (numbered_lead s) x f in
        let two = begins (numbered_lead t) x e in
        absurd (ne (one_lead s t one.0 two.0 hs ht (sym one.1 ∙ two.1)))
    told false f = refl

-- the list without the first that passes the test
without_first : (Word → Bool) → List Word → List Word
without_first f [] = []
without_first f (x ∷ xs) = if f x then xs else x ∷ without_first f xs

less_step : (f : Word → Bool) (x : Word) (xs : List Word) (b : Bool) → (b || list_any f xs) ≡ true → (list_any f xs ≡ true → suc (length (without_first f xs)) ≡ length xs) → suc (length (if b then xs else x ∷ without_first f xs)) ≡ suc (length xs)
less_step f x xs true e less = refl
less_step f x xs false e less = ap suc (less e)

one_less : (f : Word → Bool) (xs : List Word) → list_any f xs ≡ true → suc (length (without_first f xs)) ≡ length xs
unfolding without_first
one_less f [] e = absurd cc
one_less f (x ∷ xs) e = less_step f x xs (f x) e (one_less f xs)

any_step : (f g : Word → Bool) (x : Word) (xs : List Word) (b : Bool) → (b ≡ true → g x ≡ false) → list_any g (without_first f xs) ≡ list_any g xs → list_any g (if b then xs else x ∷ without_first f xs) ≡ (g x || list_any g xs)
any_step f g x xs true h e = rw (h refl) refl
any_step f g x xs false h e = ap (λ (b : Bool). g x || b) e

any-without : (f g : Word → Bool) (xs : List Word) → ((x : Word) → f x ≡ true → g x ≡ false) → list_any g (without_first f xs) ≡ list_any g xs
unfolding without_first
any-without f g [] h = refl
any-without f g (x ∷ xs) h = any_step f g x xs (f x) (h x) (any-without f g xs h)

fewer : (tries t : ℕ) (xs : List Word) → length xs ≤ suc tries → list_any (begins_at t) xs ≡ true → length (without_first (begins_at t) xs) ≤ tries
fewer tries t xs few e = let less : suc (length (without_first (begins_at t) xs)) ≡ length xs = one_less (begins_at t) xs e in omega arith

abbrev is_free_at : List Word → ℕ → Bool
is_free_at names t = is_free names (numbered_lead t)

free_step : (tries t : ℕ) (names : List Word) (b : Bool) → is_free_at names t ≡ b → (is_free_at names t ≡ false → is_free_at names (free_from tries names (t + 1)) ≡ true) → is_free_at names (if b then t else free_from tries names (t + 1)) ≡ true
free_step tries t names true e later = e
free_step tries t names false e later = later e

taken_by : (t : ℕ) (names xs : List Word) → is_free_at names t ≡ is_free_at xs t → is_free_at names t ≡ false → list_any (begins_at t) xs ≡ true
taken_by t names xs same e = sym (not-not (list_any (begins_at t) xs)) ∙ ap not (sym same ∙ e)

least_is_free : (tries t : ℕ) (names xs : List Word) → length xs ≤ tries → t + tries < 2 ^ 64 → ((s : ℕ) → t ≤ s → s < 2 ^ 64 → is_free_at names s ≡ is_free_at xs s) → is_free_at names (free_from tries names t) ≡ true
least_is_free zero t names [] few small same = same t (omega arith) (omega arith)
least_is_free zero t names (x ∷ xs) few small same = absurd (omega arith)
least_is_free (suc tries) t names xs few small same = free_step tries t names (is_free_at names t) refl (λ e.
    least_is_free tries (t + 1) names (without_first (begins_at t) xs)
    (fewer tries t xs few (taken_by t names xs (same t (omega arith) (omega arith)) e)) (omega arith)
    (λ s above below. same s (omega arith) below ∙ ap not (sym (any-without (begins_at t) (begins_at s) xs (λ x begun. other_lead s t x below (omega arith) (omega arith) begun)))))

-- as many tries as names are enough
pub number-is-free : (names : List Word) → length names < 2 ^ 64 → is_free_at names (free_number names) ≡ true
number-is-free names small = least_is_free (length names) 0 names names (omega arith) (omega arith) (λ s above below. refl)

pub none-before : (tries : ℕ) (names : List Word) (t u : ℕ) → t ≤ u → u < free_from tries names t → is_free_at names u ≡ false
none-before zero names t u le lt = absurd (omega (arith, le, lt))
none-before (suc tries) names t u le lt = go (is_free_at names t) refl lt (none-before tries names (t + 1) u)
  where
    go : (b : Bool) → is_free_at names t ≡ b → u < cond b t (free_from tries names (t + 1)) → (t + 1 ≤ u → u < free_from tries names (t + 1) → is_free_at names u ≡ false) → is_free_at names u ≡ false
    go true is lt rest = absurd (omega (arith, le, lt))
    go false is lt rest = elim (eqb_tells t u) [
      | inl same ↦ subst (λ (n : ℕ). is_free_at names n ≡ false) same.1 is
      | inr other ↦ let ne : t ≢ u = other.1 in rest (omega (arith, le, ne)) lt
    ]

pub number-le : (tries t : ℕ) (names : List Word) → free_from tries names t ≤ t + tries
number-le zero t names = omega arith
number-le (suc tries) t names = by_test (is_free_at names t) (number-le tries (t + 1) names)
  where
    by_test : (b : Bool) → free_from tries names (t + 1) ≤ t + 1 + tries → (if b then t else free_from tries names (t + 1)) ≤ t + suc tries
    by_test true h = omega arith
    by_test false h = omega arith
