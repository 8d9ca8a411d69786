-- Sums and counts over lists of which one stands within the other.
use Rattle.std.proofs.Common.{◌≡◌, ◌≤◌, ◌+◌, ℕ, suc, Bool, true, false, not, List, [], ◌∷◌, ◌++◌, length, map, ◌⊎◌, inl, inr, refl, sym, ap, ◌∙◌, subst, arith, zero-le, length-append}
use Rattle.std.specs.Prelude.{None, Option, Some, if◌then◌else◌, sum_by}
use Rattle.std.specs.Option.{option_map}
use Rattle.std.specs.List.{flat_map}
use Rattle.std.proofs.lemmas.Bool.{and_parts}
use Rattle.std.proofs.lemmas.List.{length-map, map-append}
use Rattle.std.proofs.lemmas.List.Sums.{sum_by-append, sum_by-cons}
use Rattle.rm_model.specs.Value.{is_among, outputs_of}
use Rattle.rm_model.specs.Words.{is_word}
use Rattle.rm_model.proofs.Public.{is_word-same, same_word}
use Rattle.rm_model.specs.WellFormed.{is_distinct}
use Rattle.rm_model.specs.declared.parts.Literal.{Literal}
use Rattle.rm_model.specs.declared.parts.Literal.TheVariants.{Zero, One, Any}
use Rattle.rm_model.specs.declared.parts.Cover.{Cover}
use Rattle.rm_base.specs.Members.{In}
use Rattle.rm_base.specs.Words.{Word}
use Rattle.rm_base.proofs.Public.{in_append, in_left, in_map, in_mapped, in_right, not_excludes}
use Rattle.cover_decompose.specs.Count.{cover_wires, cover_zero_names, new_count, wires_by, zero_names, zero_names_by}
use Rattle.cover_decompose.specs.Parity.{are_two, differ_in_rows, parity_ending}
use Rattle.sewing.specs.Sewn.{renamed_cover}
use Rattle.sewing.proofs.Members.{among-in, in-among, in-outputs}

-- each item stands once
pub Once : {A : Type 0} → List A → Type 0
Once [] = Unit {0}
Once (x ∷ xs) = (In xs x → ⊥) × Once xs

-- a list cut at an item
pub record CutAt {A : Type 0} (xs : List A) (x : A) : Type 0 where
  pub before : List A
  pub behind : List A
  pub is : xs ≡ before ++ x ∷ behind

cut-at : {A : Type 0} (xs : List A) (x : A) → In xs x → CutAt xs x
cut-at [] x h = absurd h
cut-at {A = A} (y ∷ xs) x (inl e) = record { before = []; behind = xs; is = ap (λ (z : A). z ∷ xs) e }
cut-at {A = A} (y ∷ xs) x (inr h) = let c = cut-at xs x h in record { before = y ∷ c.before; behind = c.behind; is = ap (λ (zs : List A). y ∷ zs) c.is }

-- a list that stands once within another one has no greater sum
pub sum-within : {A : Type 0} (g : A → ℕ) (xs ys : List A) → Once xs → ((x : A) → In xs x → In ys x) → sum_by g xs ≤ sum_by g ys
unfolding Once
sum-within g [] ys once within = zero-le
sum-within {A = A} g (x ∷ xs) ys once within =
    let c : CutAt ys x = cut-at ys x (within x (inl refl)) in
    let rest : (y : A) → In xs y → In (c.before ++ c.behind) y = λ y h. elsewhere c y h (in_append c.before (x ∷ c.behind) y (subst (λ (l : List A). In l y) c.is (within y (inr h)))) in
    let less : sum_by g xs ≤ sum_by g (c.before ++ c.behind) = sum-within g xs (c.before ++ c.behind) once.1 rest in
    let whole : sum_by g ys ≡ sum_by g c.before + sum_by g (x ∷ c.behind) = ap (sum_by g) c.is ∙ sum_by-append g c.before (x ∷ c.behind) in
    let last : sum_by g (x ∷ c.behind) ≡ g x + sum_by g c.behind = sum_by-cons g x c.behind in
    let both : sum_by g (c.before ++ c.behind) ≡ sum_by g c.before + sum_by g c.behind = sum_by-append g c.before c.behind in
    let first : sum_by g (x ∷ xs) ≡ g x + sum_by g xs = sum_by-cons g x xs in
    added (sum_by g xs) (sum_by g c.before) (sum_by g c.behind) (g x) (sum_by g ys) (sum_by g (x ∷ xs)) (sum_by g (c.before ++ c.behind)) (sum_by g (x ∷ c.behind)) less whole last both first
  where
    elsewhere : (c : CutAt ys x) → (y : A) → In xs y → In c.before y ⊎ In (x ∷ c.behind) y → In (c.before ++ c.behind) y
    elsewhere c y h (inl a) = in_left c.before c.behind y a
    elsewhere c y h (inr (inl e)) = absurd (once.0 (subst (λ (z : A). In xs z) (sym e) h))
    elsewhere c y h (inr (inr b)) = in_right c.before c.behind y b

    added : (a b d e f h i j : ℕ) → a ≤ i → f ≡ b + j → j ≡ e + d → i ≡ b + d → h ≡ e + a → h ≤ f
    added a b d e f h i j less whole last both first = omega arith

-- the same for lengths
pub length-within : {A : Type 0} (xs ys : List A) → Once xs → ((x : A) → In xs x → In ys x) → length xs ≤ length ys
length-within {A = A} xs ys once within =
    let less : sum_by (λ (x : A). 1) xs ≤ sum_by (λ (x : A). 1) ys = sum-within (λ (x : A). 1) xs ys once within in
    omega (arith, less, ones xs, ones ys)
  where
    ones : (zs : List A) → sum_by (λ (x : A). 1) zs ≡ length zs
    ones [] = refl
    ones (z ∷ zs) = sum_by-cons (λ (x : A). 1) z zs ∙ omega (arith, ones zs)

pub covers-once : (cs : List Cover) → is_distinct (outputs_of cs) ≡ true → Once cs
unfolding Once
covers-once [] once = tt
covers-once (c ∷ cs) once =
    let parts = and_parts (not (is_among (outputs_of cs) c.output)) (is_distinct (outputs_of cs)) once in
    ((λ h. not_excludes (is_among (outputs_of cs) c.output) parts.0 (in-among (outputs_of cs) c.output (in-outputs cs c h))), covers-once cs parts.1)

-- DIFFERENT NAMES

-- the names beside some earlier ones, each where it first stands
pub different : List Word → List Word → List Word
different earlier [] = []
different earlier (x ∷ xs) = if is_among earlier x then different earlier xs else x ∷ different (x ∷ earlier) xs

count-different : (earlier xs : List Word) → new_count earlier xs ≡ length (different earlier xs)
unfolding different
count-different earlier [] = refl
count-different earlier (x ∷ xs) = go (is_among earlier x) (count-different earlier xs) (count-different (x ∷ earlier) xs)
  where
    go : (b : Bool) → new_count earlier xs ≡ length (different earlier xs) → new_count (x ∷ earlier) xs ≡ length (different (x ∷ earlier) xs)
        → (if b then new_count earlier xs else suc (new_count (x ∷ earlier) xs)) ≡ length (if b then different earlier xs else x ∷ different (x ∷ earlier) xs)
    go true e f = e
    go false e f = ap suc f

different-in : (earlier xs : List Word) (y : Word) → In (different earlier xs) y → In xs y
unfolding different
different-in earlier [] y h = h
different-in earlier (x ∷ xs) y h = go (is_among earlier x) (different-in earlier xs y) (different-in (x ∷ earlier) xs y) h
  where
    go : (b : Bool) → (In (different earlier xs) y → In xs y) → (In (different (x ∷ earlier) xs) y → In xs y) → In (if b then different earlier xs else x ∷ different (x ∷ earlier) xs) y → (x ≡ y) ⊎ In xs y
    go true f g h = inr (f h)
    go false f g (inl e) = inl e
    go false f g (inr h) = inr (g h)

in-different : (earlier xs : List Word) (y : Word) → In xs y → In earlier y ⊎ In (different earlier xs) y
unfolding different
in-different earlier [] y h = absurd h
in-different earlier (x ∷ xs) y h = go (is_among earlier x) refl (in-different earlier xs y) (in-different (x ∷ earlier) xs y) h
  where
    go : (b : Bool) → is_among earlier x ≡ b → (In xs y → In earlier y ⊎ In (different earlier xs) y) → (In xs y → ((x ≡ y) ⊎ In earlier y) ⊎ In (different (x ∷ earlier) xs) y) → (x ≡ y) ⊎ In xs y
        → In earlier y ⊎ In (if b then different earlier xs else x ∷ different (x ∷ earlier) xs) y
    go true is f g (inl e) = inl (subst (λ (z : Word). In earlier z) e (among-in earlier x is))
    go true is f g (inr h) = f h
    go false is f g (inl e) = inr (inl e)
    go false is f g (inr h) = elim (g h) [
      | inl a ↦ elim a [ inl e ↦ inr (inl e) | inr old ↦ inl old ]
      | inr b ↦ inr (inr b)
    ]

different-new : (earlier xs : List Word) (y : Word) → In (different earlier xs) y → In earlier y → ⊥
unfolding different
different-new earlier [] y h old = h
different-new earlier (x ∷ xs) y h old = go (is_among earlier x) refl (different-new earlier xs y) (different-new (x ∷ earlier) xs y) h
  where
    go : (b : Bool) → is_among earlier x ≡ b → (In (different earlier xs) y → In earlier y → ⊥) → (In (different (x ∷ earlier) xs) y → (x ≡ y) ⊎ In earlier y → ⊥) → In (if b then different earlier xs else x ∷ different (x ∷ earlier) xs) y → ⊥
    go true is f g h = f h old
    go false is f g (inl e) = let there : is_among earlier x ≡ true = in-among earlier x (subst (λ (z : Word). In earlier z) (sym e) old) in let bad : true ≡ false = sym there ∙ is in cc
    go false is f g (inr h) = g h (inr old)

different-once : (earlier xs : List Word) → Once (different earlier xs)
unfolding different Once
different-once earlier [] = tt
different-once earlier (x ∷ xs) = go (is_among earlier x) (different-once earlier xs) (different-once (x ∷ earlier) xs)
  where
    go : (b : Bool) → Once (different earlier xs) → Once (different (x ∷ earlier) xs) → Once (if b then different earlier xs else x ∷ different (x ∷ earlier) xs)
    go true f g = f
    go false f g = ((λ h. different-new (x ∷ earlier) xs x h (inl refl)), g)

-- each name once
abbrev pub each_once : List Word → List Word
each_once xs = different [] xs

pub in-each : (xs : List Word) (y : Word) → In xs y → In (each_once xs) y
in-each xs y h = elim (in-different [] xs y h) [ inl a ↦ absurd a | inr b ↦ b ]

pub count-within : (xs zs : List Word) → ((x : Word) → In xs x → In zs x) → new_count [] xs ≤ length zs
count-within xs zs within =
    let less : length (each_once xs) ≤ length zs = length-within (each_once xs) zs (different-once [] xs) (λ x h. within x (different-in [] xs x h)) in
    omega (arith, less, count-different [] xs)

pub count-less : (xs ys : List Word) → ((x : Word) → In xs x → In ys x) → new_count [] xs ≤ new_count [] ys
count-less xs ys within = omega (arith, count-within xs (each_once ys) (λ x h. in-each ys x (within x h)), count-different [] ys)

pub count-join : (xs ys : List Word) → new_count [] (xs ++ ys) ≤ new_count [] xs + new_count [] ys
count-join xs ys =
    let less : new_count [] (xs ++ ys) ≤ length (each_once xs ++ each_once ys) = count-within (xs ++ ys) (each_once xs ++ each_once ys) (λ x h. elim (in_append xs ys x h) [
      | inl a ↦ in_left (each_once xs) (each_once ys) x (in-each xs x a)
      | inr b ↦ in_right (each_once xs) (each_once ys) x (in-each ys x b)
    ]) in
    omega (arith, less, length-append (each_once xs) (each_once ys), count-different [] xs, count-different [] ys)

pub count-map : (f : Word → Word) (xs : List Word) → new_count [] (map f xs) ≤ new_count [] xs
count-map f xs =
    let less : new_count [] (map f xs) ≤ length (map f (each_once xs)) = count-within (map f xs) (map f (each_once xs)) (λ y h. (
    let r : (x : Word) × (In xs x × (f x ≡ y)) = in_map f xs y h in
    subst (λ (z : Word). In (map f (each_once xs)) z) r.1.1 (in_mapped f (each_once xs) r.0 (in-each xs r.0 r.1.0)))) in
    omega (arith, less, length-map (each_once xs) f, count-different [] xs)

-- RENAMED COVERS

zero-names-renamed : (f : Word → Word) (xs : List Word) (ls : List Literal) → zero_names (map f xs) ls ≡ map f (zero_names xs ls)
zero-names-renamed f [] ls = refl
zero-names-renamed f (x ∷ xs) [] = refl
zero-names-renamed f (x ∷ xs) (Zero ∷ ls) = ap (λ (l : List Word). f x ∷ l) (zero-names-renamed f xs ls)
zero-names-renamed f (x ∷ xs) (One ∷ ls) = zero-names-renamed f xs ls
zero-names-renamed f (x ∷ xs) (Any ∷ ls) = zero-names-renamed f xs ls

rows-renamed : (f : Word → Word) (inputs : List Word) (rows : List (List Literal)) → flat_map (zero_names (map f inputs)) rows ≡ map f (flat_map (zero_names inputs) rows)
rows-renamed f inputs [] = refl
rows-renamed f inputs (r ∷ rs) =
    ap (λ (l : List Word). l ++ flat_map (zero_names (map f inputs)) rs) (zero-names-renamed f inputs r)
    ∙ (ap (λ (l : List Word). map f (zero_names inputs r) ++ l) (rows-renamed f inputs rs)
    ∙ sym (map-append f (zero_names inputs r) (flat_map (zero_names inputs) rs)))

-- different names stay different
abbrev pub Tells : (Word → Word) → Type 0
Tells f = (x y : Word) → f x ≡ f y → x ≡ y

two-renamed : (f : Word → Word) → Tells f → (xs : List Word) → are_two (map f xs) ≡ are_two xs
two-renamed f tells (x ∷ y ∷ []) = go (is_word (f x) (f y)) refl (is_word x y) refl
  where
    go : (a : Bool) → is_word (f x) (f y) ≡ a → (b : Bool) → is_word x y ≡ b → not a ≡ not b
    go true same true is = refl
    go false same false is = refl
    go true same false is = let here : is_word x y ≡ true = ap (λ (z : Word). is_word x z) (sym (tells x y (same_word (f x) (f y) same))) ∙ is_word-same x in let bad : true ≡ false = sym here ∙ is in absurd cc
    go false same true is = let here : is_word (f x) (f y) ≡ true = ap (λ (z : Word). is_word (f x) (f z)) (sym (same_word x y is)) ∙ is_word-same (f x) in let bad : true ≡ false = sym here ∙ same in absurd cc
two-renamed f tells xs = refl

ending-renamed : (f : Word → Word) → Tells f → (c : Cover) → parity_ending (renamed_cover f c) ≡ parity_ending c
ending-renamed f tells c = ap (λ (two : Bool). if two then option_map (λ (differ : Bool). if differ then c.on else not c.on) (differ_in_rows c.rows) else None) (two-renamed f tells c.inputs)

cover-zeros-renamed : (f : Word → Word) → Tells f → (c : Cover) → cover_zero_names (renamed_cover f c) ≡ map f (cover_zero_names c)
cover-zeros-renamed f tells c = ap (λ (o : Option Bool). zero_names_by o (renamed_cover f c)) (ending-renamed f tells c) ∙ go (parity_ending c)
  where
    go : (o : Option Bool) → zero_names_by o (renamed_cover f c) ≡ map f (zero_names_by o c)
    go (Some ends) = refl
    go None = rows-renamed f c.inputs c.rows

cover-wires-renamed : (f : Word → Word) → Tells f → (c : Cover) → cover_wires (renamed_cover f c) ≡ cover_wires c
cover-wires-renamed f tells c = ap (λ (o : Option Bool). wires_by o (renamed_cover f c)) (ending-renamed f tells c) ∙ go (parity_ending c)
  where
    go : (o : Option Bool) → wires_by o (renamed_cover f c) ≡ wires_by o c
    go (Some ends) = refl
    go None = refl

pub zeros-renamed : (f : Word → Word) → Tells f → (cs : List Cover) → flat_map cover_zero_names (map (renamed_cover f) cs) ≡ map f (flat_map cover_zero_names cs)
zeros-renamed f tells [] = refl
zeros-renamed f tells (c ∷ cs) =
    ap (λ (l : List Word). l ++ flat_map cover_zero_names (map (renamed_cover f) cs)) (cover-zeros-renamed f tells c)
    ∙ (ap (λ (l : List Word). map f (cover_zero_names c) ++ l) (zeros-renamed f tells cs)
    ∙ sym (map-append f (cover_zero_names c) (flat_map cover_zero_names cs)))

pub wires-renamed : (f : Word → Word) → Tells f → (cs : List Cover) → sum_by cover_wires (map (renamed_cover f) cs) ≡ sum_by cover_wires cs
wires-renamed f tells [] = refl
wires-renamed f tells (c ∷ cs) =
    sum_by-cons cover_wires (renamed_cover f c) (map (renamed_cover f) cs)
    ∙ (ap (λ (n : ℕ). n + sum_by cover_wires (map (renamed_cover f) cs)) (cover-wires-renamed f tells c)
    ∙ (ap (λ (n : ℕ). cover_wires c + n) (wires-renamed f tells cs) ∙ sym (sum_by-cons cover_wires c cs)))

-- the names that covers of a list read as 0 stand in a list that has these covers
pub zeros-in : (cs ds : List Cover) → ((c : Cover) → In cs c → In ds c) → (x : Word) → In (flat_map cover_zero_names cs) x → In (flat_map cover_zero_names ds) x
zeros-in [] ds within x h = absurd h
zeros-in (c ∷ cs) ds within x h = elim (in_append (cover_zero_names c) (flat_map cover_zero_names cs) x h) [
  | inl a ↦ there ds (within c (inl refl)) a
  | inr b ↦ zeros-in cs ds (λ d k. within d (inr k)) x b
]
  where
    there : (ds : List Cover) → In ds c → In (cover_zero_names c) x → In (flat_map cover_zero_names ds) x
    there [] h k = absurd h
    there (d ∷ ds) (inl e) k = in_left (cover_zero_names d) (flat_map cover_zero_names ds) x (subst (λ (b : Cover). In (cover_zero_names b) x) (sym e) k)
    there (d ∷ ds) (inr h) k = in_right (cover_zero_names d) (flat_map cover_zero_names ds) x (there ds h k)
