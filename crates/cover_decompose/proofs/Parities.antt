-- What a parity cover has: two inputs, and the value of an Xor of them, or its opposite.
use Rattle.std.proofs.Common.{◌≡◌, Bool, true, false, cond, not, List, [], ◌∷◌, map, refl, sym, ap, subst, ◌∙◌}
use Rattle.std.specs.Prelude.{Some, None, Option, ◌&&◌, ◌||◌}
use Rattle.std.specs.Option.{option_map}
use Rattle.rm_model.specs.Size.{rows_weight}
use Rattle.rm_model.specs.Value.{row_matches, value_of, value_of_rows}
use Rattle.rm_model.specs.declared.parts.Literal.{Literal}
use Rattle.rm_model.specs.declared.parts.Literal.TheVariants.{Zero, One}
use Rattle.rm_model.specs.declared.parts.Cover.{Cover}
use Rattle.gate_net.specs.Values.{parity}
use Rattle.cover_decompose.specs.Parity.{are_two, differ_in, differ_in_rows, is_opposed, parity_ending}
use Rattle.rm_base.proofs.Public.{some_same}
use Rattle.rm_base.specs.Words.{Word}

-- this ending of an Xor
abbrev pub ended : Bool → Bool → Bool
ended ends b = cond ends b (not b)

-- rows of two literals that are opposed at each place
pub record AreRows (rows : List (List Literal)) (differ : Bool) : Type 0 where
  pub value : (on a b : Bool) → value_of_rows rows on (a ∷ b ∷ []) ≡ ended (cond differ on (not on)) (parity false (a ∷ b ∷ []))
  pub weight : rows_weight rows ≡ 10

-- one row or the other matches where the Xor is this
ended_twice : (on differ p m : Bool) → m ≡ ended differ p → cond m on (not on) ≡ ended (cond differ on (not on)) p
ended_twice true true p m e = ap (λ (b : Bool). cond b true false) e ∙ same p
  where
    same : (b : Bool) → cond b true false ≡ b
    same true = refl
    same false = refl
ended_twice true false p m e = ap (λ (b : Bool). cond b true false) e ∙ same p
  where
    same : (b : Bool) → cond (not b) true false ≡ not b
    same true = refl
    same false = refl
ended_twice false true p m e = ap (λ (b : Bool). cond b false true) e ∙ same p
  where
    same : (b : Bool) → cond b false true ≡ not b
    same true = refl
    same false = refl
ended_twice false false p m e = ap (λ (b : Bool). cond b false true) e ∙ same p
  where
    same : (b : Bool) → cond (not b) false true ≡ b
    same true = refl
    same false = refl

-- which of two opposed rows match
matches : (x y z w : Literal) (a b : Bool) → is_opposed x z ≡ true → is_opposed y w ≡ true → row_matches (x ∷ y ∷ []) (a ∷ b ∷ []) || (row_matches (z ∷ w ∷ []) (a ∷ b ∷ []) || false) ≡ ended (is_opposed x y) (parity false (a ∷ b ∷ []))
matches Zero Zero One One true true e f = refl
matches Zero Zero One One true false e f = refl
matches Zero Zero One One false true e f = refl
matches Zero Zero One One false false e f = refl
matches Zero One One Zero true true e f = refl
matches Zero One One Zero true false e f = refl
matches Zero One One Zero false true e f = refl
matches Zero One One Zero false false e f = refl
matches One Zero Zero One true true e f = refl
matches One Zero Zero One true false e f = refl
matches One Zero Zero One false true e f = refl
matches One Zero Zero One false false e f = refl
matches One One Zero Zero true true e f = refl
matches One One Zero Zero true false e f = refl
matches One One Zero Zero false true e f = refl
matches One One Zero Zero false false e f = refl
matches x y z w a b e f = absurd cc

pair_rows : (r s : List Literal) (differ : Bool) → differ_in r s ≡ Some differ → AreRows (r ∷ s ∷ []) differ
pair_rows (x ∷ y ∷ []) (z ∷ w ∷ []) differ e = by_tests (is_opposed x z) refl (is_opposed y w) refl e
  where
    by_tests : (one : Bool) → is_opposed x z ≡ one → (two : Bool) → is_opposed y w ≡ two → cond (one && two) (Some (is_opposed x y)) None ≡ Some differ → AreRows ((x ∷ y ∷ []) ∷ (z ∷ w ∷ []) ∷ []) differ
    by_tests true a true b e =
        let is : is_opposed x y ≡ differ = some_same e in
        record { value = λ on i j. ended_twice on differ (parity false (i ∷ j ∷ [])) _ (matches x y z w i j a b ∙ ap (λ (d : Bool). ended d (parity false (i ∷ j ∷ []))) is); weight = refl }
    by_tests true a false b e = absurd cc
    by_tests false a two b e = absurd cc
pair_rows r s differ e = absurd cc

two_rows : (rows : List (List Literal)) (differ : Bool) → differ_in_rows rows ≡ Some differ → AreRows rows differ
two_rows (r ∷ s ∷ []) differ e = pair_rows r s differ e
two_rows rows differ e = absurd cc

two_names : (xs : List Word) → are_two xs ≡ true → (x y : Word) × (xs ≡ x ∷ y ∷ [])
two_names (x ∷ y ∷ []) e = (x, y, refl)
two_names xs e = absurd cc

pub record IsParity (c : Cover) (ends : Bool) : Type 0 where
  pub inputs : (x y : Word) × (c.inputs ≡ x ∷ y ∷ [])
  pub value : (a b : Bool) → value_of c (a ∷ b ∷ []) ≡ ended ends (parity false (a ∷ b ∷ []))
  pub weight : rows_weight c.rows ≡ 10

pub is_parity : (c : Cover) (ends : Bool) → parity_ending c ≡ Some ends → IsParity c ends
is_parity c ends e = by_names (are_two c.inputs) refl e
  where
    by_rows : (o : Option Bool) → differ_in_rows c.rows ≡ o → are_two c.inputs ≡ true → option_map (λ (differ : Bool). cond differ c.on (not c.on)) o ≡ Some ends → IsParity c ends
    by_rows None f two e = absurd cc
    by_rows (Some differ) f two e =
        let rows = two_rows c.rows differ f in
        let is : cond differ c.on (not c.on) ≡ ends = some_same e in
        record {
          inputs = two_names c.inputs two;
          value = λ a b. rows.value c.on a b ∙ ap (λ (d : Bool). ended d (parity false (a ∷ b ∷ []))) is;
          weight = rows.weight;
        }

    by_names : (two : Bool) → are_two c.inputs ≡ two → cond two (option_map (λ (differ : Bool). cond differ c.on (not c.on)) (differ_in_rows c.rows)) None ≡ Some ends → IsParity c ends
    by_names false two e = absurd cc
    by_names true two e = by_rows (differ_in_rows c.rows) refl two e

-- the values of the inputs
pub parity_value : (c : Cover) (ends : Bool) (v : Word → Bool) → IsParity c ends → value_of c (map v c.inputs) ≡ ended ends (parity false (map v c.inputs))
parity_value c ends v h =
    let P : List Word → Type 0 = λ xs. value_of c (map v xs) ≡ ended ends (parity false (map v xs)) in
    subst P (sym h.inputs.2) (h.value (v h.inputs.0) (v h.inputs.1))
