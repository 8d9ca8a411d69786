-- The cover of a gate has the gate's value.
use Rattle.std.proofs.Common.{◌≡◌, ◌≤◌, ℕ, zero, suc, Bool, true, false, not, ◌||◌, List, [], ◌∷◌, map, length, refl, sym, ◌∙◌, ap, subst, arith, All, nat_eq}
use Rattle.std.specs.Prelude.{if◌then◌else◌, replicate, Some, nat_le}
use Rattle.std.proofs.lemmas.Bool.{ne_eqb, or_left}
use Rattle.std.proofs.lemmas.List.Elements.{All-cons, All-nil, All-head, All-tail}
use Rattle.std.specs.List.{list_any}
use Rattle.std.proofs.Math.Bool.{and-false, or-false}
use Rattle.rm_model.specs.Value.{row_matches, value_of_rows}
use Rattle.rm_model.specs.declared.parts.Literal.{Literal}
use Rattle.rm_model.specs.declared.parts.Literal.TheVariants.{Zero, One, Any}
use Rattle.rm_model.specs.declared.parts.Cover.{Cover}
use Rattle.gate_net.specs.declared.Kind.{Kind}
use Rattle.gate_net.specs.declared.Kind.TheVariants.{Source, And, Or, Not, Xor}
use Rattle.gate_net.specs.Values.{junction, parity}
use Rattle.graph_to_model.specs.NetModel.{row_per_pin, gate_cover_of}
use Rattle.rm_base.proofs.Public.{some_is}
use Rattle.rm_base.specs.Words.{Word}
use Rattle.gate_net.specs.declared.Kind.TheVariants as kinds
use Rattle.graph_to_model.specs.Inner.Covers.{CoverOf}

-- a row of 1s matches where all are 1
pub ones_match : (bs : List Bool) → row_matches (replicate (length bs) One) bs ≡ junction false bs
ones_match [] = refl
ones_match (true ∷ bs) = ones_match bs
ones_match (false ∷ bs) = refl

-- a row of 0s matches where none is 1
pub zeros_match : (bs : List Bool) → row_matches (replicate (length bs) Zero) bs ≡ not (junction true bs)
zeros_match [] = refl
zeros_match (true ∷ bs) = refl
zeros_match (false ∷ bs) = zeros_match bs

anys_match : (bs : List Bool) → row_matches (replicate (length bs) Any) bs ≡ true
anys_match [] = refl
anys_match (b ∷ bs) = anys_match bs

behind_any : (b : Bool) (bs : List Bool) (rows : List (List Literal)) → list_any (λ (row : List Literal). row_matches row (b ∷ bs)) (map (λ r. Any ∷ r) rows) ≡ list_any (λ (row : List Literal). row_matches row bs) rows
behind_any b bs [] = refl
behind_any b bs (r ∷ rows) = ap (λ c. row_matches r bs || c) (behind_any b bs rows)

-- some row of one 1 matches where some pin is 1
pub rows_match : (bs : List Bool) → list_any (λ (row : List Literal). row_matches row bs) (row_per_pin (length bs)) ≡ junction true bs
rows_match [] = refl
rows_match (true ∷ bs) = or_left (row_matches (replicate (length bs) Any) bs) _ (anys_match bs)
rows_match (false ∷ bs) = behind_any false bs (row_per_pin (length bs)) ∙ rows_match bs

if_same : (b : Bool) → (if b then true else false) ≡ b
if_same true = refl
if_same false = refl

if_not : (b : Bool) → (if not b then false else true) ≡ b
if_not true = refl
if_not false = refl

and_value : (n : ℕ) (bs : List Bool) → length bs ≡ n → value_of_rows (replicate n One ∷ []) true bs ≡ junction false bs
and_value n bs e = subst (λ (k : ℕ). value_of_rows (replicate k One ∷ []) true bs ≡ junction false bs) e
    (if_same (row_matches (replicate (length bs) One) bs || false) ∙ (or-false (row_matches (replicate (length bs) One) bs) ∙ ones_match bs))

wide_value : (n : ℕ) (bs : List Bool) → length bs ≡ n → value_of_rows (replicate n Zero ∷ []) false bs ≡ junction true bs
wide_value n bs e = subst (λ (k : ℕ). value_of_rows (replicate k Zero ∷ []) false bs ≡ junction true bs) e
    (ap (λ (b : Bool). if b then false else true) (or-false (row_matches (replicate (length bs) Zero) bs) ∙ zeros_match bs) ∙ if_not (junction true bs))

rows_value : (rows : List (List Literal)) (bs : List Bool) → (rows ≡ [] → junction true bs ≡ false) → list_any (λ (row : List Literal). row_matches row bs) rows ≡ junction true bs → value_of_rows rows true bs ≡ junction true bs
rows_value [] bs none e = sym (none refl)
rows_value (r ∷ rs) bs none e = if_same (list_any (λ (row : List Literal). row_matches row bs) (r ∷ rs)) ∙ e

no_rows : (n : ℕ) → row_per_pin n ≡ [] → n ≡ 0
no_rows zero e = refl
no_rows (suc n) e = absurd cc

or_value : (n : ℕ) (bs : List Bool) → length bs ≡ n → value_of_rows (row_per_pin n) true bs ≡ junction true bs
or_value n bs e = subst (λ (k : ℕ). value_of_rows (row_per_pin k) true bs ≡ junction true bs) e
    (rows_value (row_per_pin (length bs)) bs (λ none. empty bs (no_rows (length bs) none)) (rows_match bs))
  where
    empty : (bs : List Bool) → length bs ≡ 0 → junction true bs ≡ false
    empty [] e = refl
    empty (b ∷ bs) e = absurd (omega arith)

replicate_length : (n : ℕ) (l : Literal) → length (replicate n l) ≡ n
replicate_length zero l = refl
replicate_length (suc n) l = ap suc (replicate_length n l)

pub one_row : (n : ℕ) (l : Literal) → All (λ (r : List Literal). length r ≡ n) (replicate n l ∷ [])
one_row n l = All-cons (λ (r : List Literal). length r ≡ n) (replicate n l) [] (replicate_length n l) (All-nil (λ (r : List Literal). length r ≡ n))

longer_rows : (n : ℕ) (rows : List (List Literal)) → All (λ (r : List Literal). length r ≡ n) rows → All (λ (r : List Literal). length r ≡ suc n) (map (λ r. Any ∷ r) rows)
longer_rows n [] h = All-nil (λ (r : List Literal). length r ≡ suc n)
longer_rows n (r ∷ rows) h =
    All-cons (λ (r : List Literal). length r ≡ suc n) (Any ∷ r) (map (λ r. Any ∷ r) rows) (ap suc (All-head (λ (r : List Literal). length r ≡ n) r rows h))
    (longer_rows n rows (All-tail (λ (r : List Literal). length r ≡ n) r rows h))

row_lengths : (n : ℕ) → All (λ (r : List Literal). length r ≡ n) (row_per_pin n)
row_lengths zero = All-nil (λ (r : List Literal). length r ≡ 0)
row_lengths (suc n) =
    All-cons (λ (r : List Literal). length r ≡ suc n) (One ∷ replicate n Any) (map (λ r. Any ∷ r) (row_per_pin n)) (ap suc (replicate_length n Any)) (longer_rows n (row_per_pin n) (row_lengths n))

not_one : (n : ℕ) → 2 ≤ n → nat_eq n 1 ≡ false
not_one n h = ne_eqb n 1 (λ (e : n ≡ 1). let f : ⊥ = omega arith in f)

not_value : (n : ℕ) (bs : List Bool) → length bs ≡ n → n ≡ 1 → value_of_rows ((Zero ∷ []) ∷ []) true bs ≡ parity true bs
not_value n [] e one = absurd (omega arith)
not_value n (true ∷ []) e one = refl
not_value n (false ∷ []) e one = refl
not_value n (b ∷ d ∷ bs) e one = absurd (omega arith)

xor_value : (n : ℕ) (bs : List Bool) → length bs ≡ n → n ≡ 2 → value_of_rows ((One ∷ Zero ∷ []) ∷ (Zero ∷ One ∷ []) ∷ []) true bs ≡ parity false bs
xor_value n [] e two = absurd (omega arith)
xor_value n (b ∷ []) e two = absurd (omega arith)
xor_value n (true ∷ true ∷ []) e two = refl
xor_value n (true ∷ false ∷ []) e two = refl
xor_value n (false ∷ true ∷ []) e two = refl
xor_value n (false ∷ false ∷ []) e two = refl
xor_value n (b ∷ d ∷ f ∷ bs) e two = absurd (omega arith)

two_rows : All (λ (r : List Literal). length r ≡ 2) ((One ∷ Zero ∷ []) ∷ (Zero ∷ One ∷ []) ∷ [])
two_rows =
    All-cons (λ (r : List Literal). length r ≡ 2) (One ∷ Zero ∷ []) ((Zero ∷ One ∷ []) ∷ []) refl
    (All-cons (λ (r : List Literal). length r ≡ 2) (Zero ∷ One ∷ []) [] refl (All-nil (λ (r : List Literal). length r ≡ 2)))

pub cover_of : (kind : Kind) (inputs : List Word) (output : Word) (c : Cover) → gate_cover_of kind inputs output ≡ Some c → CoverOf kind inputs output c
cover_of Source inputs output c e = absurd cc
cover_of kinds.Zero inputs output c e = absurd cc
cover_of kinds.One inputs output c e = absurd cc
cover_of And inputs output c e = subst (CoverOf And inputs output) (some_is _ _ e) (record {
  gate = tt;
  in_is = refl;
  out_is = refl;
  formed = λ one. record { no_rows = λ none. refl; row_lengths = one_row (length inputs) One };
  value = λ bs l one. and_value (length inputs) bs l;
  no_copy = λ one two. rw (not_one (length inputs) (two (λ (f : And ≡ Not). let g : ⊥ = cc in g))) refl;
})
cover_of Or inputs output c e = by_width (nat_le (length inputs) 64) refl
  where
    by_width : (b : Bool) → nat_le (length inputs) 64 ≡ b → CoverOf Or inputs output c
    by_width true w = subst (CoverOf Or inputs output) (some_is _ _ (rw w at e)) (record {
      gate = tt;
      in_is = refl;
      out_is = refl;
      formed = λ one. record { no_rows = λ none. refl; row_lengths = row_lengths (length inputs) };
      value = λ bs l one. or_value (length inputs) bs l;
      no_copy = λ one two. rw (not_one (length inputs) (two (λ (f : Or ≡ Not). let g : ⊥ = cc in g))) refl;
    })
    by_width false w = subst (CoverOf Or inputs output) (some_is _ _ (rw w at e)) (record {
      gate = tt;
      in_is = refl;
      out_is = refl;
      formed = λ one. record { no_rows = λ none. absurd cc; row_lengths = one_row (length inputs) Zero };
      value = λ bs l one. wide_value (length inputs) bs l;
      no_copy = λ one two. rw (not_one (length inputs) (two (λ (f : Or ≡ Not). let g : ⊥ = cc in g))) refl;
    })
cover_of Not inputs output c e = subst (CoverOf Not inputs output) (some_is _ _ e) (record {
  gate = tt;
  in_is = refl;
  out_is = refl;
  formed = λ one. record { no_rows = λ none. refl; row_lengths = subst (λ (k : ℕ). All (λ (r : List Literal). length r ≡ k) ((Zero ∷ []) ∷ [])) (sym (one.one refl)) (one_row 1 Zero) };
  value = λ bs l one. not_value (length inputs) bs l (one.one refl);
  no_copy = λ one two. and-false (nat_eq (length inputs) 1);
})
cover_of Xor inputs output c e = subst (CoverOf Xor inputs output) (some_is _ _ e) (record {
  gate = tt;
  in_is = refl;
  out_is = refl;
  formed = λ pins. record { no_rows = λ none. refl; row_lengths = subst (λ (k : ℕ). All (λ (r : List Literal). length r ≡ k) ((One ∷ Zero ∷ []) ∷ (Zero ∷ One ∷ []) ∷ [])) (sym (pins.two refl)) two_rows };
  value = λ bs l pins. xor_value (length inputs) bs l (pins.two refl);
  no_copy = λ pins two. rw (not_one (length inputs) (two (λ (f : Xor ≡ Not). let g : ⊥ = cc in g))) refl;
})
