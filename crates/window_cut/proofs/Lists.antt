-- Names and covers in lists.
use Rattle.std.proofs.Common.{◌≡◌, ◌+◌, ◌<◌, ℕ, zero, suc, Bool, true, false, cond, not, ◌||◌, List, [], ◌∷◌, ◌++◌, take, drop, filter, option_to_list, refl, sym, ap, ◌∙◌, subst, arith}
use Rattle.std.specs.Prelude.{Option, None, Some, slice_get, slice_index, length, get_or}
use Rattle.std.specs.List.{cons_option}
use Rattle.std.proofs.lemmas.Bool.{and_parts, false_from_ne_true}
use Rattle.std.proofs.lemmas.List.{map-append}
use Rattle.std.proofs.lemmas.List.Elements.{filter_map-append}
use Rattle.rm_base.proofs.Public.{not_excludes, read_stands, take_one_more}
use Rattle.rm_base.specs.Words.{Word}
use Rattle.rm_model.proofs.Public.{among-at, output-at, same_word}
use Rattle.rm_model.specs.Value.{is_among, outputs_of}
use Rattle.rm_model.specs.WellFormed.{is_distinct}
use Rattle.rm_model.specs.Words.{is_word}
use Rattle.rm_model.specs.declared.parts.Cover.{Cover}
use Rattle.window_cut.specs.Order.{covers_at}

-- an output isn't among those before it
pub new_output : (cs : List Cover) (i : ℕ) (c : Cover) → is_distinct (outputs_of cs) ≡ true → slice_get cs i ≡ Some c → is_among (outputs_of (take i cs)) c.output ≡ false
new_output [] i c once e = absurd cc
new_output (d ∷ cs) zero c once e = refl
new_output (d ∷ cs) (suc i) c once e =
    let parts = and_parts (not (is_among (outputs_of cs) d.output)) (is_distinct (outputs_of cs)) once in
    let other : is_word c.output d.output ≡ false = false_from_ne_true (is_word c.output d.output) (λ same.
    let there : is_among (outputs_of cs) c.output ≡ true = among-at (outputs_of cs) i c.output (output-at cs i c e) in
    not_excludes (is_among (outputs_of cs) d.output) parts.0 (subst (λ (x : Word). is_among (outputs_of cs) x ≡ true) (same_word c.output d.output same) there)) in
    rw (other, new_output cs i c parts.1 e) refl

pub among_joined : (xs ys : List Word) (x : Word) → is_among (xs ++ ys) x ≡ (is_among xs x || is_among ys x)
among_joined [] ys x = refl
among_joined (z ∷ xs) ys x = by_test (is_word x z) (among_joined xs ys x)
  where
    by_test : (b : Bool) → is_among (xs ++ ys) x ≡ (is_among xs x || is_among ys x) → (b || is_among (xs ++ ys) x) ≡ ((b || is_among xs x) || is_among ys x)
    by_test true e = refl
    by_test false e = e

one_cover : (o : Option Cover) → cons_option o [] ≡ option_to_list o
one_cover None = refl
one_cover (Some c) = refl

pub covers_at-push : (cs : List Cover) (ks : List ℕ) (k : ℕ) → covers_at cs (ks ++ k ∷ []) ≡ covers_at cs ks ++ option_to_list (slice_get cs k)
covers_at-push cs ks k = filter_map-append (slice_get cs) ks (k ∷ []) ∙ ap (λ (l : List Cover). covers_at cs ks ++ l) (one_cover (slice_get cs k))

pub covers_at-more : (cs : List Cover) (ks : List ℕ) (i k : ℕ) → slice_get ks i ≡ Some k → covers_at cs (take (i + 1) ks) ≡ covers_at cs (take i ks) ++ option_to_list (slice_get cs k)
covers_at-more cs ks i k e = ap (covers_at cs) (take_one_more ks i k e) ∙ covers_at-push cs (take i ks) k

pub outputs-joined : (cs ds : List Cover) → outputs_of (cs ++ ds) ≡ outputs_of cs ++ outputs_of ds
outputs-joined cs ds = map-append (λ (c : Cover). c.output) cs ds

pub filter_same : {A : Type 0} (p q : A → Bool) (xs : List A) → ((x : A) → p x ≡ q x) → filter p xs ≡ filter q xs
filter_same p q [] h = refl
filter_same p q (x ∷ xs) h = ap (λ (b : Bool). cond b (x ∷ filter p xs) (filter p xs)) (h x) ∙ ap (λ (l : _). cond (q x) (x ∷ l) l) (filter_same p q xs h)

pub covers_at-next : (cs : List Cover) (ks : List ℕ) (i : ℕ) → i < length ks → covers_at cs (take (i + 1) ks) ≡ covers_at cs (take i ks) ++ option_to_list (slice_get cs (slice_index ks i))
covers_at-next cs ks i lt = covers_at-more cs ks i (slice_index ks i) (read_stands ks i (slice_index ks i) lt (same_read ks i lt))
  where
    same_read : (ks : List ℕ) (i : ℕ) → i < length ks → slice_index ks i ≡ get_or ks i (slice_index ks i)
    same_read [] i lt = absurd (omega arith)
    same_read (k ∷ ks) zero lt = refl
    same_read (k ∷ ks) (suc i) lt = same_read ks i (omega arith)

cons_is : (o : Option Cover) (cs : List Cover) → cons_option o cs ≡ option_to_list o ++ cs
cons_is None cs = refl
cons_is (Some c) cs = refl

pub covers_at-drop : (cs : List Cover) (ks : List ℕ) (i : ℕ) → i < length ks → covers_at cs (drop i ks) ≡ option_to_list (slice_get cs (slice_index ks i)) ++ covers_at cs (drop (i + 1) ks)
covers_at-drop cs [] i lt = absurd (omega arith)
covers_at-drop cs (k ∷ ks) zero lt = cons_is (slice_get cs k) (covers_at cs ks) ∙ ap (λ (l : List ℕ). option_to_list (slice_get cs k) ++ covers_at cs l) (sym (first_rest ks))
  where
    first_rest : (ks : List ℕ) → drop 0 ks ≡ ks
    first_rest [] = refl
    first_rest (k ∷ ks) = refl
covers_at-drop cs (k ∷ ks) (suc i) lt = let next : suc i + 1 ≡ suc (i + 1) = omega arith in covers_at-drop cs ks i (omega arith) ∙ ap (λ (n : ℕ). option_to_list (slice_get cs (slice_index ks i)) ++ covers_at cs (drop n (k ∷ ks))) (sym next)
