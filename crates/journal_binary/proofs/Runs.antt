-- So many parts, one after another.
use Rattle.std.proofs.Common.{◌≡◌, ℕ, zero, suc, ◌+◌, List, [], ◌∷◌, ◌++◌, length, refl, ap, sym, ◌∙◌, arith}
use Rattle.journal_binary.specs.Fronts.{Front, bad, got, read_many, short, then_read}
use Rattle.journal_binary.proofs.Steady.{ThenGot, many_none, many_one, rest_at, then_got}
use Rattle.journal_binary.proofs.Going.{then_same, then_then}

abbrev value_at : {A : Type 0} → A → Front A → A
value_at a (got b rest) = b
value_at a bad = a
value_at a short = a

pub got_value : {A : Type 0} (a b : A) (rest more : List ℕ) → got a rest ≡ got b more → a ≡ b
got_value a b rest more e = ap (value_at a) e

pub got_rest : {A : Type 0} (a b : A) (rest more : List ℕ) → got a rest ≡ got b more → rest ≡ more
got_rest a b rest more e = ap rest_at e

same_got : {A : Type 0} (x : Front (List A)) → then_read x (λ ys rest. got ([] ++ ys) rest) ≡ x
same_got (got ys rest) = refl
same_got bad = refl
same_got short = refl

-- some, and then so many more
abbrev pub then_more : {A : Type 0} → (List ℕ → Front A) → ℕ → List A → List ℕ → Front (List A)
then_more read n xs rest = then_read (read_many read n rest) (λ ys rest. got (xs ++ ys) rest)

abbrev consed : {A : Type 0} → A → List A → List ℕ → Front (List A)
consed a more rest = got (a ∷ more) rest

consed_more : {A : Type 0} (read : List ℕ → Front A) (a : A) (n : ℕ) (x : Front (List A)) → then_read (then_read x (then_more read n)) (consed a) ≡ then_read (then_read x (consed a)) (then_more read n)
consed_more read a n (got xs rest) = then_then (read_many read n rest) (λ ys rest. got (xs ++ ys) rest) (consed a)
consed_more read a n bad = refl
consed_more read a n short = refl

pub many_split : {A : Type 0} (read : List ℕ → Front A) (a n : ℕ) (bytes : List ℕ) → read_many read (a + n) bytes ≡ then_read (read_many read a bytes) (then_more read n)
many_split read zero n bytes =
    let none : 0 + n ≡ n = omega arith in
    ap (λ (k : ℕ). read_many read k bytes) none ∙ sym (same_got (read_many read n bytes)) ∙ ap (λ (x : Front (List _)). then_read x (then_more read n)) (sym (many_none read bytes))
many_split read (suc a) n bytes =
    let one : suc a + n ≡ suc (a + n) = omega arith in
    ap (λ (k : ℕ). read_many read k bytes) one
    ∙ many_one read (a + n) bytes
    ∙ then_same (read bytes) _ _ (λ x rest. ap (λ (y : Front (List _)). then_read y (consed x)) (many_split read a n rest) ∙ consed_more read x n (read_many read a rest))
    ∙ sym (then_then (read bytes) (λ x rest. then_read (read_many read a rest) (consed x)) (then_more read n))
    ∙ ap (λ (y : Front (List _)). then_read y (then_more read n)) (sym (many_one read a bytes))

pub many_length : {A : Type 0} (read : List ℕ → Front A) (n : ℕ) (bytes rest : List ℕ) (xs : List A) → read_many read n bytes ≡ got xs rest → length xs ≡ n
many_length read zero bytes rest xs e = ap length (sym (got_value [] xs bytes rest (sym (many_none read bytes) ∙ e)))
many_length read (suc n) bytes rest xs e =
    let g = then_got (read bytes) _ xs rest (sym (many_one read n bytes) ∙ e) in
    let h = then_got (read_many read n g.middle) (consed g.value) xs rest g.second in
    ap length (sym (got_value (g.value ∷ h.value) xs h.middle rest h.second)) ∙ ap suc (many_length read n g.middle h.middle h.value h.first)

-- some were read, and then the others
pub record Further {A : Type 0} (read : List ℕ → Front A) (n : ℕ) (xs zs : List A) (rest end : List ℕ) : Type 0 where
  pub more : List A
  pub read_more : read_many read n rest ≡ got more end
  pub is : zs ≡ xs ++ more

pub many_further : {A : Type 0} (read : List ℕ → Front A) (a n : ℕ) (bytes rest end : List ℕ) (xs zs : List A) → read_many read a bytes ≡ got xs rest → read_many read (a + n) bytes ≡ got zs end → Further read n xs zs rest end
many_further read a n bytes rest end xs zs e f =
    let g = then_got (read_many read n rest) (λ ys rest. got (xs ++ ys) rest) zs end (sym (ap (λ (x : Front (List _)). then_read x (then_more read n)) e) ∙ sym (many_split read a n bytes) ∙ f) in
    record {
      more = g.value;
      read_more = g.first ∙ ap (λ (r : List ℕ). got g.value r) (got_rest (xs ++ g.value) zs g.middle end g.second);
      is = sym (got_value (xs ++ g.value) zs g.middle end g.second);
    }

pub many_then : {A : Type 0} (read : List ℕ → Front A) (a n : ℕ) (bytes rest end : List ℕ) (xs ys : List A) → read_many read a bytes ≡ got xs rest → read_many read n rest ≡ got ys end → read_many read (a + n) bytes ≡ got (xs ++ ys) end
many_then read a n bytes rest end xs ys e f =
    many_split read a n bytes ∙ ap (λ (x : Front (List _)). then_read x (then_more read n)) e ∙ ap (λ (x : Front (List _)). then_read x (λ ys rest. got (xs ++ ys) rest)) f

pub one_many : {A : Type 0} (read : List ℕ → Front A) (bytes rest : List ℕ) (x : A) → read bytes ≡ got x rest → read_many read 1 bytes ≡ got (x ∷ []) rest
one_many read bytes rest x e =
    many_one read 0 bytes ∙ ap (λ (y : Front _). then_read y (λ a rest. then_read (read_many read 0 rest) (consed a))) e ∙ ap (λ (y : Front (List _)). then_read y (consed x)) (many_none read rest)

pub many_last : {A : Type 0} (read : List ℕ → Front A) (n : ℕ) (bytes rest end : List ℕ) (xs : List A) (x : A) → read_many read n bytes ≡ got xs rest → read rest ≡ got x end → read_many read (n + 1) bytes ≡ got (xs ++ x ∷ []) end
many_last read n bytes rest end xs x e f = many_then read n 1 bytes rest end xs (x ∷ []) e (one_many read rest end x f)

-- the first of some that were read
pub many_first : {A : Type 0} (read : List ℕ → Front A) (n : ℕ) (bytes rest : List ℕ) (xs : List A) → read_many read (suc n) bytes ≡ got xs rest → ThenGot (read bytes) (λ a rest. then_read (read_many read n rest) (consed a)) xs rest
many_first read n bytes rest xs e = then_got (read bytes) _ xs rest (sym (many_one read n bytes) ∙ e)
