-- How a count over a list rises.
use Rattle.std.proofs.Common.{Bool, List, [], ap, arith, false, inl, inr, length, refl, sym, true, ℕ, ◌++◌, ◌+◌, ◌<◌, ◌∙◌, ◌∷◌, ◌≡◌, ◌≢◌, ◌||◌}
use Rattle.std.proofs.lemmas.Bool.{cases_Bool}
use Rattle.std.proofs.lemmas.Bool.Decides.{eqb_tells}
use Rattle.std.specs.Prelude.{nat_eq}
use Rattle.implications.proofs.Counting.{count_few}
use Rattle.implications.specs.Inner.Rises.{risen}
use Rattle.implications.specs.Inner.Tallies.{counting}

pub counting-append : {A : Type 0} (test : A → Bool) (xs ys : List A) → counting test (xs ++ ys) ≡ counting test xs + counting test ys
counting-append test [] ys = omega arith
counting-append test (x ∷ xs) ys =
    let rest : counting test (xs ++ ys) ≡ counting test xs + counting test ys = counting-append test xs ys in
    elim (cases_Bool (test x)) [ inl is ↦ rw is (omega arith) | inr is ↦ rw is rest ]

-- one item more
pub counted_more : {A : Type 0} (test : A → Bool) (xs : List A) (x : A) (n m : ℕ) → n ≡ counting test xs → m ≡ risen (test x) n 1 → m ≡ counting test (xs ++ x ∷ [])
counted_more test xs x n m is more = elim (cases_Bool (test x)) [
  | inl e ↦
      let one : counting test (x ∷ []) ≡ 1 = rw e refl in
      let now : m ≡ n + 1 = rw e at more in
      omega (arith, counting-append test xs (x ∷ []))
  | inr e ↦
      let none : counting test (x ∷ []) ≡ 0 = rw e refl in
      let now : m ≡ n = rw e at more in
      omega (arith, counting-append test xs (x ∷ []))
]

pub count_same : (t t' : ℕ → Bool) (ds : List ℕ) → ((d : ℕ) → t' d ≡ t d) → counting t' ds ≡ counting t ds
count_same t t' [] same = refl
count_same t t' (d ∷ ds) same = rw (same d, count_same t t' ds same) refl

-- a test comes to pass at a number, if the flag says so
pub record ComesToPass (before after flag : Bool) : Type 0 where
  pub new : flag ≡ true → before ≡ false
  pub later : after ≡ (flag || before)

passes_more : (x : ℕ) (t t' : ℕ → Bool) → ((d : ℕ) → d ≢ x → t' d ≡ t d) → t x ≡ false → t' x ≡ true → (ds : List ℕ) → counting t' ds ≡ counting t ds + counting (nat_eq x) ds
passes_more x t t' off was now [] = refl
passes_more x t t' off was now (d ∷ ds) =
    let rest : counting t' ds ≡ counting t ds + counting (nat_eq x) ds = passes_more x t t' off was now ds in
    elim (eqb_tells x d) [
      | inl e ↦
          let here : t d ≡ false = ap t (sym e.1) ∙ was in
          let here' : t' d ≡ true = ap t' (sym e.1) ∙ now in
          rw (e.0, here, here') (omega arith)
      | inr e ↦
          let same : t' d ≡ t d = off d (λ is. e.1 (sym is)) in
          rw (e.0, same) (elim (cases_Bool (t d)) [ inl is ↦ rw is (omega arith) | inr is ↦ rw is rest ])
    ]

-- so many more pass: as often as the number is among them
pub counting_rises : (x : ℕ) (t t' : ℕ → Bool) (flag : Bool) → ((d : ℕ) → d ≢ x → t' d ≡ t d) → ComesToPass (t x) (t' x) flag → (ds : List ℕ) → counting t' ds ≡ risen flag (counting t ds) (counting (nat_eq x) ds)
counting_rises x t t' true off comes ds = passes_more x t t' off (comes.new refl) comes.later ds
counting_rises x t t' false off comes ds = count_same t t' ds (λ d. elim (eqb_tells d x) [ inl e ↦ rw e.1 comes.later | inr e ↦ off d e.1 ])

-- fewer pass than there are, before all have come
pub counting_room : (x : ℕ) (t t' : ℕ → Bool) (flag : Bool) → ((d : ℕ) → d ≢ x → t' d ≡ t d) → ComesToPass (t x) (t' x) flag → (ds : List ℕ) (k n m : ℕ) → n ≡ counting t ds → m ≡ risen flag n k → k < counting (nat_eq x) ds → flag ≡ true → m < length ds
counting_room x t t' true off comes ds k n m is more less e = omega (arith, passes_more x t t' off (comes.new refl) comes.later ds, count_few t' ds)
counting_room x t t' false off comes ds k n m is more less e = cc

pub risen_none : (flag : Bool) (n : ℕ) → n ≡ risen flag n 0
risen_none true n = omega arith
risen_none false n = refl

pub risen_more : (flag : Bool) (n m q k : ℕ) → m ≡ risen flag n k → q ≡ risen flag m 1 → q ≡ risen flag n (k + 1)
risen_more true n m q k e f = omega arith
risen_more false n m q k e f = f ∙ e
