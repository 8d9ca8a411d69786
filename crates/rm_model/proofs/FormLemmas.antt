-- Tests of a name and of names.
use Rattle.std.proofs.Common.{◌≡◌, ℕ, zero, suc, ◌<◌, ◌+◌, ◌-◌, List, [], ◌∷◌, ◌++◌, length, take, drop, get_or, Bool, true, false, not, ◌&&◌, ◌||◌, Some, refl, sym, ap, ◌∙◌, subst, arith}
use Rattle.std.specs.Prelude.{slice_get, nat_eq, IsTrue, ◌↔◌}
use Rattle.std.specs.List.{list_all}
use Rattle.std.proofs.lemmas.List.{take_more, take-append-drop}
use Rattle.std.proofs.lemmas.Bool.{and_parts, false_from_ne_true}
use Rattle.rm_model.specs.Words.{is_word}
use Rattle.rm_model.specs.Value.{is_among}
use Rattle.rm_model.specs.WellFormed.{driven_names, ends_in_backslash, is_distinct, is_token, names_of, used_names, IsWellFormed}
use Rattle.rm_model.specs.Inner.WellFormed.{AreFormed, AreOnce}
use Rattle.rm_model.specs.declared.parts.Model.{Model}
use Rattle.rm_model.proofs.CoverLemmas.{same_word, is_word-same, among-at}
use Rattle.rm_model.proofs.NameLemmas.{distinct-apart}
use Rattle.rm_model.proofs.NumberLemmas.{among-push}
use Rattle.rm_base.proofs.Public.{not_excludes}
use Rattle.rm_base.specs.Words.{Word, is_word_byte}

pub ends-last : (xs : List ℕ) (n : ℕ) → length xs ≡ suc n → ends_in_backslash xs ≡ nat_eq (get_or xs n 0) 92
ends-last [] n e = absurd (omega (arith, e))
ends-last (x ∷ []) zero e = refl
ends-last (x ∷ []) (suc n) e = absurd (omega (arith, e))
ends-last (x ∷ y ∷ xs) zero e = absurd (omega (arith, e))
ends-last (x ∷ y ∷ xs) (suc n) e = ends-last (y ∷ xs) n (omega (arith, e))

pub token-parts : (xs : List ℕ) → 0 < length xs → is_token xs ≡ (list_all is_word_byte xs && not (ends_in_backslash xs))
token-parts [] lt = absurd (omega (arith, lt))
token-parts (x ∷ xs) lt = refl

-- names that differ, and one more
pub distinct-push : (xs : List Word) (y : Word) → is_distinct xs ≡ true → is_among xs y ≡ false → is_distinct (xs ++ y ∷ []) ≡ true
distinct-push [] y once new = refl
distinct-push (x ∷ xs) y once new =
    let parts = and_parts (not (is_among xs x)) (is_distinct xs) once in
    let apart = neither (is_word y x) (is_among xs y) new in
    let other : is_word x y ≡ false = false_from_ne_true (is_word x y) (λ same. let is : x ≡ y = same_word x y same in let back : is_word y x ≡ true = subst (λ (z : Word). is_word z x ≡ true) is (is_word-same x) in let no_more = apart.0 in cc) in
    let first : is_among xs x ≡ false = false_from_ne_true (is_among xs x) (not_excludes (is_among xs x) parts.0) in
    let among : is_among (xs ++ y ∷ []) x ≡ false = among-push xs y x ∙ rw (first, other) refl in
    rw (among, distinct-push xs y parts.1 apart.1) refl
  where
    neither : (a b : Bool) → (a || b) ≡ false → (a ≡ false) × (b ≡ false)
    neither true b e = absurd cc
    neither false b e = (refl, e)

among-drop : (xs : List Word) (i : ℕ) (x : Word) → slice_get xs i ≡ Some x → is_among (drop i xs) x ≡ true
among-drop [] i x e = absurd cc
among-drop (y ∷ xs) zero x e = among-at (y ∷ xs) zero x e
among-drop (y ∷ xs) (suc i) x e = among-drop xs i x e

pub repeated : (xs : List Word) (i : ℕ) (x : Word) → slice_get xs i ≡ Some x → is_among (take i xs) x ≡ true → is_distinct xs ≡ false
repeated xs i x at before = false_from_ne_true (is_distinct xs) (λ once.
    let parted : is_distinct (take i xs ++ drop i xs) ≡ true = subst (λ (l : List Word). is_distinct l ≡ true) (sym (take-append-drop i xs)) once in
    distinct-apart (take i xs) (drop i xs) x parted before (among-drop xs i x at))

-- one more name of a list
pub distinct-more : (xs : List Word) (i : ℕ) (x : Word) → i < length xs → x ≡ get_or xs i x → is_distinct (take i xs) ≡ true → is_among (take i xs) x ≡ false → is_distinct (take (i + 1) xs) ≡ true
distinct-more xs i x lt is once new =
    let more : take (i + 1) xs ≡ take i xs ++ x ∷ [] = take_more xs i x lt ∙ ap (λ (y : Word). take i xs ++ y ∷ []) (sym is) in
    ap is_distinct more ∙ distinct-push (take i xs) x once new

pub take-next : (xs : List Word) (i : ℕ) (x : Word) → i < length xs → x ≡ get_or xs i x → take (i + 1) xs ≡ take i xs ++ x ∷ []
take-next xs i x lt is = take_more xs i x lt ∙ ap (λ (y : Word). take i xs ++ y ∷ []) (sym is)

pub last-backslash : (xs : List ℕ) → false ≡ nat_eq (length xs) 0 → nat_eq (get_or xs (length xs - 1) 0) 92 ≡ ends_in_backslash xs
last-backslash [] e = absurd cc
last-backslash (x ∷ xs) e = sym (ends-last (x ∷ xs) (length (x ∷ xs) - 1) (omega arith))

list_all-same : (f g : Word → Bool) (xs : List Word) → ((x : Word) → f x ≡ g x) → list_all f xs ≡ list_all g xs
list_all-same f g [] h = refl
list_all-same f g (x ∷ xs) h = rw (h x, list_all-same f g xs h) refl

pub used-among : (m : Model) (table driven used : List Word) → ((x : Word) → is_among table x ≡ is_among driven x) → driven ≡ driven_names m → used ≡ used_names m → list_all (is_among table) used ≡ list_all (is_among (driven_names m)) (used_names m)
used-among m table driven used h e f =
    list_all-same (is_among table) (is_among driven) used h
    ∙ (ap (λ (l : List Word). list_all (is_among l) used) e ∙ ap (λ (l : List Word). list_all (is_among (driven_names m)) l) f)

-- the four tests together
pub formed-exactly : (m : Model) (once tokens known formed r : Bool) → r ≡ (once && (tokens && (known && formed))) → (IsTrue once ↔ AreOnce m) → tokens ≡ list_all is_token (names_of m) → known ≡ list_all (is_among (driven_names m)) (used_names m) → (IsTrue formed ↔ AreFormed m) → IsTrue r ↔ IsWellFormed m
formed-exactly m once tokens known formed r e first second third fourth = (to, from)
  where
    to : IsTrue r → IsWellFormed m
    to yes_r =
        let all : (once && (tokens && (known && formed))) ≡ true = sym e ∙ yes_r in
        let a = and_parts once (tokens && (known && formed)) all in
        let b = and_parts tokens (known && formed) a.1 in
        let d = and_parts known formed b.1 in
        let o : AreOnce m = first.0 a.0 in
        let f : AreFormed m = fourth.0 d.1 in
        record { tokens = sym second ∙ b.0; inputs_once = o.0; clocks_once = o.1; driven_once = o.3; outputs_once = o.2; all_driven = sym third ∙ d.0; covers = f.0; inits = f.1; controls = f.2 }

    from : IsWellFormed m → IsTrue r
    from w =
        let a : once ≡ true = first.1 (w.inputs_once, w.clocks_once, w.outputs_once, w.driven_once) in
        let b : tokens ≡ true = second ∙ w.tokens in
        let d : known ≡ true = third ∙ w.all_driven in
        let f : formed ≡ true = fourth.1 (w.covers, w.inits, w.controls) in
        e ∙ rw (a, b, d, f) refl
