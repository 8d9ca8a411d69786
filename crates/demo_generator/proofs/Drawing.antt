-- One draw more, one cover more.
use Rattle.std.proofs.Common.{◌≡◌, ◌∙◌, ◌+◌, ◌*◌, ℕ, zero, suc, refl, sym, ap, [], ◌∷◌, ◌++◌, arith}
use Rattle.demo_generator.specs.Draws.{after, answer, drawn, next_state}
use Rattle.demo_generator.specs.Generator.{cover_at, covers_from, numbers_from}

more_is : (n : ℕ) → n + 1 ≡ suc n
more_is n = omega arith

pub after-add : (m n x : ℕ) → after n (after m x) ≡ after (m + n) x
unfolding after
after-add zero n x = let e : zero + n ≡ n = omega arith in rw e refl
after-add (suc m) n x = let e : suc m + n ≡ suc (m + n) = omega arith in rw e (after-add m n (next_state x))

pub after-more : (n x : ℕ) → after (n + 1) x ≡ next_state (after n x)
unfolding after
after-more n x = sym (after-add n 1 x)

drawn-suc : (n k x : ℕ) → drawn (suc n) k x ≡ drawn n k x ++ answer k (next_state (after n x)) ∷ []
unfolding after drawn
drawn-suc zero k x = refl
drawn-suc (suc n) k x = ap (λ xs. answer k (next_state x) ∷ xs) (drawn-suc n k (next_state x))

pub drawn-more : (n k x : ℕ) → drawn (n + 1) k x ≡ drawn n k x ++ answer k (after (n + 1) x) ∷ []
drawn-more n k x = ap (λ i. drawn i k x) (more_is n) ∙ drawn-suc n k x ∙ ap (λ s. drawn n k x ++ answer k s ∷ []) (sym (after-more n x))

numbers-suc : (first n : ℕ) → numbers_from first (suc n) ≡ numbers_from first n ++ (first + n) ∷ []
numbers-suc first zero = let e : first + zero ≡ first = omega arith in rw e refl
numbers-suc first (suc n) = let e : first + suc n ≡ first + 1 + n = omega arith in rw e (ap (λ xs. first ∷ xs) (numbers-suc (first + 1) n))

pub numbers-more : (first n : ℕ) → numbers_from first (n + 1) ≡ numbers_from first n ++ (first + n) ∷ []
numbers-more first n = ap (numbers_from first) (more_is n) ∙ numbers-suc first n

covers-suc : (n j x : ℕ) → covers_from (suc n) j x ≡ covers_from n j x ++ cover_at (j + n) (after (9 * n) x) ∷ []
unfolding covers_from after
covers-suc zero j x = let e : j + zero ≡ j = omega arith in rw e refl
covers-suc (suc n) j x =
    let e : j + suc n ≡ j + 1 + n = omega arith in
    let s : 9 * suc n ≡ 9 + 9 * n = omega arith in
    rw (e, s) (ap (λ cs. cover_at j x ∷ cs) (covers-suc n (j + 1) (after 9 x) ∙ ap (λ y. covers_from n (j + 1) (after 9 x) ++ cover_at (j + 1 + n) y ∷ []) (after-add 9 (9 * n) x)))

pub covers-more : (n x : ℕ) → covers_from (n + 1) 0 x ≡ covers_from n 0 x ++ cover_at n (after (9 * n) x) ∷ []
covers-more n x = ap (λ i. covers_from i 0 x) (more_is n) ∙ covers-suc n 0 x ∙ ap (λ j. covers_from n 0 x ++ cover_at j (after (9 * n) x) ∷ []) (let e : 0 + n ≡ n = omega arith in e)
