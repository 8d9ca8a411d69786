-- Names by first appearance, and the map to their places.
use Rattle.std.proofs.Common.{◌≡◌, ℕ, suc, ◌<◌, List, [], ◌∷◌, ◌++◌, map, length, Bool, true, false, cond, ◌||◌, Option, Some, None, refl, sym, ap, ◌∙◌, subst, arith}
use Rattle.std.specs.Prelude.{is_some}
use Rattle.std.specs.Borrow.{Bor}
use Rattle.std.specs.BTreeMap.{BTreeMap, get_by, UpdatesBy}
use Rattle.std.specs.Cmp.Lexicographic.{slice_cmp}
use Rattle.std.specs.Cmp.{nat_cmp_is}
use Rattle.std.specs.Ordering.{is_eq, nat_cmp, ordering_then}
use Rattle.std.specs.declared.cmp.Ordering.{Ordering}
use Rattle.std.specs.declared.cmp.Ordering.TheVariants.{Less, Equal, Greater}
use Rattle.std.specs.Option.{option_map}
use Rattle.std.proofs.lemmas.List.{length-map}
use Rattle.std.proofs.lemmas.Map.Text.{is_eq-slice_cmp}
use Rattle.std.proofs.lemmas.Bool.{false_from_ne_true}
use Rattle.rm_model.specs.Inner.PlacedNames.{key_order, name_hash}
use Rattle.rm_model.specs.Words.{is_word}
use Rattle.rm_model.specs.Value.{is_among}
use Rattle.rm_model.specs.Numbers.{place_of}
use Rattle.rm_model.proofs.CoverLemmas.{same_word, is_word-same}
use Rattle.rm_base.specs.Words.{Word}

-- the words that a list of references shows
abbrev pub shown : List (Bor Word) → List Word
shown ns = map (λ k. k.now) ns

abbrev pub looked_up : BTreeMap (ℕ × Bor Word) ℕ → Word → Option ℕ
looked_up m x = get_by (key_order x) m

nat_cmp-same : (n : ℕ) → nat_cmp n n ≡ Equal
nat_cmp-same n = sym (nat_cmp_is n n Equal refl)

equal_or_not : (x y : Word) (o : Ordering) → (x ≡ y → o ≡ Equal) → is_eq (ordering_then o (slice_cmp nat_cmp x y)) ≡ is_word x y
equal_or_not x y Equal h = is_eq-slice_cmp x y
equal_or_not x y Less h = sym (false_from_ne_true (is_word x y) (λ e. let wrong : Less ≡ Equal = h (same_word x y e) in absurd cc))
equal_or_not x y Greater h = sym (false_from_ne_true (is_word x y) (λ e. let wrong : Greater ≡ Equal = h (same_word x y e) in absurd cc))

-- a name's key is that of no other name
key-tells : (k : Bor Word) (x : Word) → is_eq (key_order k.now (name_hash x, record k { now = x })) ≡ is_word k.now x
key-tells k x = equal_or_not k.now x (nat_cmp (name_hash k.now) (name_hash x)) (λ e. ap (λ (z : Word). nat_cmp (name_hash z) (name_hash x)) e ∙ nat_cmp-same (name_hash x))

word-sym : (x y : Word) → is_word x y ≡ is_word y x
word-sym x y = go (is_word x y) refl (is_word y x) refl
  where
    go : (a : Bool) → is_word x y ≡ a → (b : Bool) → is_word y x ≡ b → a ≡ b
    go true e true f = refl
    go true e false f = absurd (let same : x ≡ y = same_word x y e in let is : is_word y x ≡ true = subst (λ (z : Word). is_word z x ≡ true) same (is_word-same x) in cc)
    go false e true f = absurd (let same : y ≡ x = same_word y x f in let is : is_word x y ≡ true = subst (λ (z : Word). is_word z y ≡ true) same (is_word-same y) in cc)
    go false e false f = refl

neither : (a b : Bool) → (a || b) ≡ false → (a ≡ false) × (b ≡ false)
neither true b e = absurd cc
neither false b e = (refl, e)

swap : (a b : Bool) (n : ℕ) (o : Option ℕ) → (a ≡ true → b ≡ true → ⊥) → cond a (Some 0) (option_map (λ k. suc k) (cond b (Some n) o)) ≡ cond b (Some (suc n)) (cond a (Some 0) (option_map (λ k. suc k) o))
swap true true n o apart = absurd (apart refl refl)
swap true false n o apart = refl
swap false true n o apart = refl
swap false false n o apart = refl

pub place-push : (xs : List Word) (x y : Word) → is_among xs x ≡ false → place_of (xs ++ x ∷ []) y ≡ cond (is_word x y) (Some (length xs)) (place_of xs y)
place-push [] x y new = ap (λ (b : Bool). cond b (Some 0) None) (word-sym y x)
place-push (z ∷ xs) x y new =
    let parts = neither (is_word x z) (is_among xs x) new in
    ap (λ (o : Option ℕ). cond (is_word y z) (Some 0) (option_map (λ k. suc k) o)) (place-push xs x y parts.1)
    ∙ swap (is_word y z) (is_word x y) (length xs) (place_of xs y)
    (λ e f. let is : is_word x z ≡ true = subst (λ (w : Word). is_word x w ≡ true) (same_word y z e) f in let not : is_word x z ≡ false = parts.0 in cc)

shown-push : (ns : List (Bor Word)) (k : Bor Word) → shown (ns ++ k ∷ []) ≡ shown ns ++ k.now ∷ []
shown-push [] k = refl
shown-push (j ∷ ns) k = ap (λ (l : List Word). j.now ∷ l) (shown-push ns k)

-- a new name goes to the end of the list, and its place into the map
pub placed-push : (ns : List (Bor Word)) (k : Bor Word) (m n : BTreeMap (ℕ × Bor Word) ℕ) (p : ℕ) → ((x : Word) → looked_up m x ≡ place_of (shown ns) x) → is_among (shown ns) k.now ≡ false → p ≡ length ns
    → UpdatesBy (λ (a b : ℕ × Bor Word). ordering_then (nat_cmp a.0 b.0) (slice_cmp nat_cmp a.1.now b.1.now)) (key_order k.now) m n (Some p) → (x : Word) → looked_up n x ≡ place_of (shown (ns ++ k ∷ [])) x
placed-push ns k m n p was new end u x =
    u.0 (name_hash x, record k { now = x })
    ∙ (ap (λ (b : Bool). cond b (Some p) (looked_up m x)) (key-tells k x)
    ∙ (ap (λ (o : Option ℕ). cond (is_word k.now x) (Some p) o) (was x)
    ∙ (ap (λ (l : ℕ). cond (is_word k.now x) (Some l) (place_of (shown ns) x)) (end ∙ sym (length-map ns (λ (j : Bor Word). j.now)))
    ∙ (sym (place-push (shown ns) k.now x new)
    ∙ ap (λ (l : List Word). place_of l x) (sym (shown-push ns k))))))

pub place-among : (xs : List Word) (x : Word) → is_some (place_of xs x) ≡ is_among xs x
place-among [] x = refl
place-among (y ∷ ys) x = step (is_word x y) (place_of ys x) (is_among ys x) (place-among ys x)
  where
    step : (b : Bool) (o : Option ℕ) (a : Bool) → is_some o ≡ a → is_some (cond b (Some 0) (option_map (λ k. suc k) o)) ≡ (b || a)
    step true o a e = refl
    step false None a e = e
    step false (Some k) a e = e

pub place-below : (xs : List Word) (x : Word) (k : ℕ) → place_of xs x ≡ Some k → k < length xs
place-below [] x k e = absurd cc
place-below (y ∷ ys) x k e = step (is_word x y) (place_of ys x) e (place-below ys x)
  where
    step : (b : Bool) (o : Option ℕ) → cond b (Some 0) (option_map (λ k. suc k) o) ≡ Some k → ((j : ℕ) → o ≡ Some j → j < length ys) → k < suc (length ys)
    step true o e below = let first : 0 ≡ k = cc in omega (arith, first)
    step false None e below = absurd cc
    step false (Some j) e below = let next : suc j ≡ k = cc in let less : j < length ys = below j refl in omega (arith, next, less)
