-- How many different words a list has.
use Rattle.std.proofs.Common.{◌≡◌, ◌≤◌, ◌+◌, List, [], ◌∷◌, length, Bool, true, false, refl, ◌∙◌, ap, arith}
use Rattle.std.specs.List.{list_all}
use Rattle.rm_model.specs.Words.{is_word}
use Rattle.rm_model.specs.Value.{is_among}
use Rattle.blif_format.specs.Uses.{distinct_count}
use Rattle.blif_reader.proofs.SizeLaws.{without, among_without, count_without}
use Rattle.rm_base.proofs.Public.{and_first, and_second, both_and, neither_first, neither_second}
use Rattle.rm_base.specs.Words.{Word}
use Rattle.rm_model.proofs.Public.{same_word}

-- words that are among others stay so without a word that isn't one of them
among_rest : (x : Word) (xs ys : List Word) → list_all (is_among ys) xs ≡ true → is_among xs x ≡ false → list_all (is_among (without x ys)) xs ≡ true
among_rest x [] ys h n = refl
among_rest x (z ∷ zs) ys h n =
    let other : is_word x z ≡ false = neither_first (is_word x z) (is_among zs x) n in
    both_and (is_among (without x ys) z) (list_all (is_among (without x ys)) zs)
    (among_without x z ys other ∙ and_first (is_among ys z) (list_all (is_among ys) zs) h)
    (among_rest x zs ys (and_second (is_among ys z) (list_all (is_among ys) zs) h) (neither_second (is_word x z) (is_among zs x) n))

-- words that are among others are of no more kinds
pub kinds_among : (xs ys : List Word) → list_all (is_among ys) xs ≡ true → distinct_count xs ≤ distinct_count ys
kinds_among [] ys h = omega arith
kinds_among (x ∷ xs) ys h = at (is_among xs x) refl (kinds_among xs)
  where
    rest : list_all (is_among ys) xs ≡ true
    rest = and_second (is_among ys x) (list_all (is_among ys) xs) h

    at : (b : Bool) → is_among xs x ≡ b → ((zs : List Word) → list_all (is_among zs) xs ≡ true → distinct_count xs ≤ distinct_count zs) → distinct_count (x ∷ xs) ≤ distinct_count ys
    at true e more = rw e (more ys rest)
    at false e more =
        let less : 1 + distinct_count (without x ys) ≤ distinct_count ys = count_without x ys (and_first (is_among ys x) (list_all (is_among ys) xs) h) in
        let ih : distinct_count xs ≤ distinct_count (without x ys) = more (without x ys) (among_rest x xs ys rest e) in
        rw e (omega arith)

pub kinds_length : (xs : List Word) → distinct_count xs ≤ length xs
kinds_length [] = omega arith
kinds_length (x ∷ xs) = at (is_among xs x) refl (kinds_length xs)
  where
    at : (b : Bool) → is_among xs x ≡ b → distinct_count xs ≤ length xs → distinct_count (x ∷ xs) ≤ length (x ∷ xs)
    at true e ih = rw e (omega arith)
    at false e ih = rw e (omega arith)

-- what all words of a list have, a word among them has
pub among_has : (p : Word → Bool) (x : Word) (zs : List Word) → is_among zs x ≡ true → list_all p zs ≡ true → p x ≡ true
among_has p x [] i a = cc
among_has p x (z ∷ zs) i a = at (is_word x z) refl (among_has p x zs)
  where
    at : (b : Bool) → is_word x z ≡ b → (is_among zs x ≡ true → list_all p zs ≡ true → p x ≡ true) → p x ≡ true
    at true e rest = ap p (same_word x z e) ∙ and_first (p z) (list_all p zs) a
    at false e rest = rest (rw e at i) (and_second (p z) (list_all p zs) a)
