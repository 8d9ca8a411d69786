-- Steps along lists.
use Rattle.std.proofs.Common.{◌≡◌, ◌<◌, ◌+◌, ◌-◌, ℕ, zero, suc, List, [], ◌∷◌, ◌++◌, length, map, drop, get_or, refl, sym, ◌∙◌, ap, arith, append_assoc}
use Rattle.std.specs.Prelude.{replicate}
use Rattle.std.proofs.Math.Seq.{drop-cons}
use Rattle.rm_model.specs.declared.parts.Literal.{Literal}
use Rattle.rm_model.specs.declared.parts.Literal.TheVariants.{One, Any}
use Rattle.graph_to_model.specs.NetModel.{row_per_pin}
use Rattle.graph_to_model.specs.Inner.Making.{before}

pub next_in : {A : Type 0} (xs : List A) (i : ℕ) (x : A) → i < length xs → x ≡ get_or xs i x → drop i xs ≡ x ∷ drop (i + 1) xs
next_in xs i x lt is = let next : suc i ≡ i + 1 = omega arith in drop-cons xs i x lt ∙ (ap (λ y. y ∷ drop (suc i) xs) (sym is) ∙ ap (λ (k : ℕ). x ∷ drop k xs) next)

rows_more : (i k : ℕ) (rs : List (List Literal)) → map (before i) (map (λ r. Any ∷ r) rs) ≡ map (before (i + 1)) rs
rows_more i k [] = refl
rows_more i k (r ∷ rs) = ap (λ (x : List Literal). x ∷ map (before i) (map (λ r. Any ∷ r) rs)) (more i r) ∙ ap (λ (xs : List (List Literal)). before (i + 1) r ∷ xs) (rows_more i k rs)
  where
    more : (i : ℕ) (r : List Literal) → replicate i Any ++ (Any ∷ r) ≡ replicate (i + 1) Any ++ r
    more zero r = refl
    more (suc i) r = let next : suc (i + 1) ≡ suc i + 1 = omega arith in ap (λ (x : List Literal). Any ∷ x) (more i r) ∙ ap (λ (j : ℕ). replicate j Any ++ r) next

-- the next row, and those that follow it
pub row_step : (rows : List (List Literal)) (row : List Literal) (i count : ℕ) → i < count → row ≡ replicate i Any ++ (One ∷ replicate (count - (i + 1)) Any) → rows ++ map (before i) (row_per_pin (count - i)) ≡ row_per_pin count → (rows ++ row ∷ []) ++ map (before (i + 1)) (row_per_pin (count - (i + 1))) ≡ row_per_pin count
row_step rows row i count lt is h =
    let next : count - i ≡ suc (count - (i + 1)) = omega arith in
    append_assoc rows (row ∷ []) _
    ∙ (ap (λ (x : List Literal). rows ++ (x ∷ map (before (i + 1)) (row_per_pin (count - (i + 1))))) is
    ∙ (ap (λ (xs : List (List Literal)). rows ++ (before i (One ∷ replicate (count - (i + 1)) Any) ∷ xs)) (sym (rows_more i 0 (row_per_pin (count - (i + 1)))))
    ∙ (ap (λ (k : ℕ). rows ++ map (before i) (row_per_pin k)) (sym next) ∙ h)))

pub rows_start : (rs : List (List Literal)) → map (before 0) rs ≡ rs
rows_start [] = refl
rows_start (r ∷ rs) = ap (λ (xs : List (List Literal)). r ∷ xs) (rows_start rs)

pub rows_first : (rows : List (List Literal)) (count : ℕ) → rows ≡ [] → rows ++ map (before 0) (row_per_pin (count - 0)) ≡ row_per_pin count
rows_first rows count none =
    let e : count - 0 ≡ count = omega arith in
    ap (λ (l : List (List Literal)). l ++ map (before 0) (row_per_pin (count - 0))) none ∙ (rows_start (row_per_pin (count - 0)) ∙ ap (λ (k : ℕ). row_per_pin k) e)
