-- The free prefix begins no kept name.
use Rattle.std.proofs.Common.{◌≡◌, ◌≢◌, ◌≤◌, ◌<◌, ◌+◌, ◌^◌, ℕ, zero, suc, Bool, true, false, not, ◌||◌, List, [], ◌∷◌, ◌++◌, length, refl, sym, ◌∙◌, ap, arith, append_assoc, nat_eq, inl, inr, ◌%◌}
use Rattle.std.specs.Prelude.{if◌then◌else◌}
use Rattle.std.specs.Fmt.{decimal}
use Rattle.std.specs.List.{list_any, starts_with}
use Rattle.std.proofs.lemmas.Fmt.{decimal_by_steps, decimal_injective}
use Rattle.std.proofs.lemmas.Bool.Decides.{eqb_tells}
use Rattle.std.proofs.Math.Bool.{not-not}
use Rattle.std.proofs.lemmas.Bool.{and_parts}
use Rattle.graph_to_model.specs.Names.{prefix, is_free, least_free}
use Rattle.rm_base.specs.Words.{Word}

-- what begins with a text is that text and more
pub begins : (p x : Word) → starts_with nat_eq x p ≡ true → (y : Word) × (x ≡ p ++ y)
begins [] x e = (x, refl)
begins (b ∷ bs) [] e = absurd cc
begins (b ∷ bs) (c ∷ cs) e =
    let both = and_parts _ _ e in
    let rest = begins bs cs both.1 in
    (rest.0, ap (λ (d : ℕ). d ∷ cs) (same b c both.0) ∙ ap (λ (ds : List ℕ). b ∷ ds) rest.1)
  where
    same : (b c : ℕ) → nat_eq b c ≡ true → c ≡ b
    same b c e = elim (eqb_tells b c) [ inl t ↦ sym t.1 | inr f ↦ let bad : true ≡ false = sym e ∙ f.0 in absurd cc ]

-- no `_` stands in the text
pub NoBar : Word → Type 0
NoBar [] = Unit {0}
NoBar (b ∷ bs) = (b ≢ 95) × NoBar bs

no_bar-append : (xs ys : Word) → NoBar xs → NoBar ys → NoBar (xs ++ ys)
unfolding NoBar
no_bar-append [] ys h k = k
no_bar-append (x ∷ xs) ys h k = (h.0, no_bar-append xs ys h.1 k)

no_bar_digit : (n : ℕ) → n < 10 → NoBar ((48 + n) ∷ [])
unfolding NoBar
no_bar_digit n h = ((λ (e : 48 + n ≡ 95). let f : ⊥ = omega arith in f), tt)

no_bar_more : (n : ℕ) (ds : Word) → 10 ≤ n → NoBar ds → NoBar (ds ++ ((48 + n % 10) ∷ []))
no_bar_more n ds h k = no_bar-append ds _ k (no_bar_digit (n % 10) (omega arith))

pub no_bar-decimal : (n : ℕ) → n < 2 ^ 64 → NoBar (decimal n)
no_bar-decimal = decimal_by_steps (λ n ds. NoBar ds) no_bar_digit no_bar_more

pub up_to_bar : (xs ys y z : Word) → NoBar xs → NoBar ys → xs ++ 95 ∷ y ≡ ys ++ 95 ∷ z → xs ≡ ys
unfolding NoBar
up_to_bar [] [] y z h k e = refl
up_to_bar [] (b ∷ bs) y z h k e = let same : 95 ≡ b = cc in absurd (k.0 (sym same))
up_to_bar (a ∷ xs) [] y z h k e = let same : a ≡ 95 = cc in absurd (h.0 same)
up_to_bar (a ∷ xs) (b ∷ ys) y z h k e =
    let first : a ≡ b = cc in
    let rest : xs ≡ ys = up_to_bar xs ys y z h.1 k.1 (cc) in
    cc

-- no name begins with two prefixes
pub one_prefix : (s t : ℕ) (y z : Word) → s < 2 ^ 64 → t < 2 ^ 64 → prefix s ++ y ≡ prefix t ++ z → s ≡ t
one_prefix s t y z hs ht e =
    let tails : (decimal s ++ 95 ∷ []) ++ y ≡ (decimal t ++ 95 ∷ []) ++ z = cc in
    let split : decimal s ++ 95 ∷ y ≡ decimal t ++ 95 ∷ z = sym (append_assoc (decimal s) (95 ∷ []) y) ∙ (tails ∙ append_assoc (decimal t) (95 ∷ []) z) in
    decimal_injective s t hs ht (up_to_bar (decimal s) (decimal t) y z (no_bar-decimal s hs) (no_bar-decimal t ht) split)

abbrev begins_at : ℕ → Word → Bool
begins_at t x = starts_with nat_eq x (prefix t)

other_prefix : (s t : ℕ) (x : Word) → s < 2 ^ 64 → t < 2 ^ 64 → s ≢ t → begins_at t x ≡ true → begins_at s x ≡ false
other_prefix s t x hs ht ne e = told (begins_at s x) refl
  where
    told : (b : Bool) → begins_at s x ≡ b → b ≡ false
    told true f =
        let one = begins (prefix s) x f in
        let two = begins (prefix t) x e in
        absurd (ne (one_prefix s t one.0 two.0 hs ht (sym one.1 ∙ two.1)))
    told false f = refl

-- the list without the first that passes the test
without_first : (Word → Bool) → List Word → List Word
without_first f [] = []
without_first f (x ∷ xs) = if f x then xs else x ∷ without_first f xs

less_step : (f : Word → Bool) (x : Word) (xs : List Word) (b : Bool) → (b || list_any f xs) ≡ true → (list_any f xs ≡ true → suc (length (without_first f xs)) ≡ length xs) → suc (length (if b then xs else x ∷ without_first f xs)) ≡ suc (length xs)
less_step f x xs true e less = refl
less_step f x xs false e less = ap suc (less e)

one_less : (f : Word → Bool) (xs : List Word) → list_any f xs ≡ true → suc (length (without_first f xs)) ≡ length xs
unfolding without_first
one_less f [] e = absurd cc
one_less f (x ∷ xs) e = less_step f x xs (f x) e (one_less f xs)

any_step : (f g : Word → Bool) (x : Word) (xs : List Word) (b : Bool) → (b ≡ true → g x ≡ false) → list_any g (without_first f xs) ≡ list_any g xs → list_any g (if b then xs else x ∷ without_first f xs) ≡ (g x || list_any g xs)
any_step f g x xs true h e = rw (h refl) refl
any_step f g x xs false h e = ap (λ (b : Bool). g x || b) e

any-without : (f g : Word → Bool) (xs : List Word) → ((x : Word) → f x ≡ true → g x ≡ false) → list_any g (without_first f xs) ≡ list_any g xs
unfolding without_first
any-without f g [] h = refl
any-without f g (x ∷ xs) h = any_step f g x xs (f x) (h x) (any-without f g xs h)

fewer : (tries t : ℕ) (xs : List Word) → length xs ≤ suc tries → list_any (begins_at t) xs ≡ true → length (without_first (begins_at t) xs) ≤ tries
fewer tries t xs few e = let less : suc (length (without_first (begins_at t) xs)) ≡ length xs = one_less (begins_at t) xs e in omega arith

free_step : (tries t : ℕ) (kept : List Word) (b : Bool) → is_free kept t ≡ b → (is_free kept t ≡ false → is_free kept (least_free tries (t + 1) kept) ≡ true) → is_free kept (if b then t else least_free tries (t + 1) kept) ≡ true
free_step tries t kept true e later = e
free_step tries t kept false e later = later e

taken_by : (t : ℕ) (kept xs : List Word) → is_free kept t ≡ is_free xs t → is_free kept t ≡ false → list_any (begins_at t) xs ≡ true
taken_by t kept xs same e = sym (not-not (list_any (begins_at t) xs)) ∙ ap not (sym same ∙ e)

least_is_free : (tries t : ℕ) (kept xs : List Word) → length xs ≤ tries → t + tries < 2 ^ 64 → ((s : ℕ) → t ≤ s → s < 2 ^ 64 → is_free kept s ≡ is_free xs s) → is_free kept (least_free tries t kept) ≡ true
least_is_free zero t kept [] few small same = same t (omega arith) (omega arith)
least_is_free zero t kept (x ∷ xs) few small same = absurd (omega arith)
least_is_free (suc tries) t kept xs few small same = free_step tries t kept (is_free kept t) refl (λ e.
    least_is_free tries (t + 1) kept (without_first (begins_at t) xs)
    (fewer tries t xs few (taken_by t kept xs (same t (omega arith) (omega arith)) e)) (omega arith)
    (λ s above below. same s (omega arith) below ∙ ap not (sym (any-without (begins_at t) (begins_at s) xs (λ x begun. other_prefix s t x below (omega arith) (omega arith) begun)))))

-- as many tries as names are enough
pub prefix_is_free : (kept : List Word) → length kept < 2 ^ 64 → is_free kept (least_free (length kept) 0 kept) ≡ true
prefix_is_free kept small = least_is_free (length kept) 0 kept kept (omega arith) (omega arith) (λ s above below. refl)
