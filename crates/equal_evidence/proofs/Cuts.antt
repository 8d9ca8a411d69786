-- Lists that are cut at a byte, or at the end.
use Rattle.std.proofs.Common.{Bool, List, [], ap, arith, drop, eqb, get_or, length, length-drop, not, refl, subst, suc, sym, take, true, zero, ℕ, ◌&&◌, ◌++◌, ◌+◌, ◌-◌, ◌<◌, ◌∷◌, ◌≡◌, ◌≢◌, ◌≤◌}
use Rattle.std.proofs.lemmas.Bool.{and_parts, eq-eqb}
use Rattle.std.proofs.lemmas.Grind.{common_steps}
use Rattle.std.specs.Prelude.{slice_index}
use Rattle.equal_evidence.specs.Inner.Ends.{IsEnd}
use Rattle.journal_text.specs.Pieces.{HasNo}

pub has_right : (c : ℕ) (a b : List ℕ) → HasNo c (a ++ b) → HasNo c b
has_right c [] b h = h
has_right c (x ∷ a) b h = has_right c a b h.1

pub has_both : (c : ℕ) (a b : List ℕ) → HasNo c a → HasNo c b → HasNo c (a ++ b)
has_both c [] b h k = k
has_both c (x ∷ a) b h k = (h.0, has_both c a b h.1 k)

heads : (x y : ℕ) (xs ys : List ℕ) → x ∷ xs ≡ y ∷ ys → x ≡ y
heads x y xs ys e = cc

tails : (x y : ℕ) (xs ys : List ℕ) → x ∷ xs ≡ y ∷ ys → xs ≡ ys
tails x y xs ys e = cc

-- there is one first such byte
pub cut_once : (c : ℕ) (a b x y : List ℕ) → HasNo c a → HasNo c b → a ++ c ∷ x ≡ b ++ c ∷ y → (a ≡ b) × (x ≡ y)
cut_once c [] [] x y h k e = (refl, tails c c x y e)
cut_once c [] (z ∷ b) x y h k e = absurd (k.0 (sym (heads c z x (b ++ c ∷ y) e)))
cut_once c (z ∷ a) [] x y h k e = absurd (h.0 (heads z c (a ++ c ∷ x) y e))
cut_once c (z ∷ a) (u ∷ b) x y h k e =
    let first : z ≡ u = heads z u (a ++ c ∷ x) (b ++ c ∷ y) e in
    let rest = cut_once c a b x y h.1 k.1 (tails z u (a ++ c ∷ x) (b ++ c ∷ y) e) in
    let same : a ≡ b = rest.0 in
    (rw (first, same) refl, rest.1)

-- a list without the byte has none to be cut at
pub uncut : (c : ℕ) (a b x : List ℕ) → HasNo c a → a ≡ b ++ c ∷ x → ⊥
uncut c [] [] x h e = cc
uncut c [] (y ∷ b) x h e = cc
uncut c (z ∷ a) [] x h e = h.0 (heads z c a x e)
uncut c (z ∷ a) (y ∷ b) x h e = uncut c a b x h.1 (tails z y a (b ++ c ∷ x) e)

has_before : (c : ℕ) (xs : List ℕ) (p : ℕ) → ((k : ℕ) → k < p → get_or xs k 0 ≢ c) → p ≤ length xs → HasNo c (take p xs)
has_before c xs zero h l = tt
has_before c [] (suc p) h l = absurd (omega arith)
has_before c (x ∷ xs) (suc p) h l = (h 0 (omega arith), has_before c xs p (λ k m. h (suc k) (omega arith)) (omega arith))

cut_at : (xs : List ℕ) (p : ℕ) → p < length xs → xs ≡ take p xs ++ get_or xs p 0 ∷ drop (p + 1) xs
cut_at xs p l = grind (arith, common_steps)

take_all : (xs : List ℕ) (p : ℕ) → p ≡ length xs → take p xs ≡ xs
take_all xs p e = grind (arith, common_steps)

pub rest_whole : (xs : List ℕ) (n : ℕ) → drop n xs ≡ take (length xs - n) (drop n xs)
rest_whole xs n = sym (take_all (drop n xs) (length xs - n) (sym (length-drop n xs)))

pub cut_there : (xs : List ℕ) (p : ℕ) → IsEnd xs p → p ≢ length xs → xs ≡ take p xs ++ 10 ∷ drop (p + 1) xs
cut_there xs p h n =
    let l : p < length xs = let w = h.within in omega (arith, w, n) in
    let is : get_or xs p 0 ≡ 10 = h.is l in
    subst (λ (d : ℕ). xs ≡ take p xs ++ d ∷ drop (p + 1) xs) is (cut_at xs p l)

pub whole_there : (xs : List ℕ) (p : ℕ) → IsEnd xs p → HasNo 10 (take p xs)
whole_there xs p h = has_before 10 xs p (λ k m. h.before k m) h.within

pub none_there : (xs : List ℕ) (p : ℕ) → IsEnd xs p → p ≡ length xs → HasNo 10 xs
none_there xs p h e = subst (λ (l : List ℕ). HasNo 10 l) (take_all xs p e) (whole_there xs p h)

-- whether no byte of a list is that byte, computed
abbrev pub lacks : ℕ → List ℕ → Bool
lacks c [] = true
lacks c (x ∷ xs) = not (eqb x c) && lacks c xs

other : (x c : ℕ) → not (eqb x c) ≡ true → x ≢ c
other x c e = λ same. let f : not (eqb x c) ≡ not true = ap not (eq-eqb x c same) in cc

pub lacks_none : (c : ℕ) (xs : List ℕ) → lacks c xs ≡ true → HasNo c xs
lacks_none c [] e = tt
lacks_none c (x ∷ xs) e = let both = and_parts (not (eqb x c)) (lacks c xs) e in (other x c both.0, lacks_none c xs both.1)
