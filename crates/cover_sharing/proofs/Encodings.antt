-- Covers have the same bytes exactly where all but their outputs are equal.
use Rattle.std.proofs.Common.{◌≡◌, ◌<◌, ◌≤◌, ℕ, suc, Bool, true, false, cond, ◌&&◌, List, [], ◌∷◌, ◌++◌, map, length, Option, Some, None, ◌⊎◌, inl, inr, refl, sym, ap, ◌∙◌, subst, append_assoc, arith}
use Rattle.std.specs.Prelude.{is_some, nat_lt, Vec}
use Rattle.std.specs.BTreeMap.{BTreeMap, UpdatesBy}
use Rattle.std.specs.Ordering.{nat_cmp}
use Rattle.std.specs.Str.{bytes_eq}
use Rattle.std.proofs.lemmas.List.{length-map, map-append}
use Rattle.std.specs.Bool.{Decides, beq, one_answer}
use Rattle.std.specs.Cmp.{booleans_Decides}
use Rattle.std.specs.Cmp.Lexicographic.{pointwise, pointwise_decides, slice_cmp}
use Rattle.std.specs.List.{flat_map}
use Rattle.std.specs.Option.{option_map}
use Rattle.std.proofs.lemmas.Bool.Decides.{Decides-ltb}
use Rattle.std.proofs.lemmas.Slice.Eq.{bytes_eq-Decides}
use Rattle.rm_model.specs.Numbers.{place_of}
use Rattle.rm_model.specs.Words.{is_word, literal_byte}
use Rattle.rm_model.specs.declared.parts.Literal.{Literal}
use Rattle.rm_model.specs.declared.parts.Literal.TheVariants.{Zero, One, Any}
use Rattle.rm_model.specs.declared.parts.Cover.{Cover}
use Rattle.rm_base.specs.Words.{Word}
use Rattle.rm_base.proofs.Public.{both_and}
use Rattle.cover_sharing.specs.Inner.Encoding.{encoded_byte, encoded_ending, encoded_name, encoded_names, encoded_row, encoded_rows, encoding_of}
use Rattle.cover_sharing.specs.Inner.Placed.{at_bytes, encodings, output_at}
use Rattle.cover_sharing.specs.Shared.{first_same, is_same, is_same_literal}
use Rattle.cover_sharing.proofs.ByteKeys.{inserted, place_again, place_new}
use Rattle.cover_sharing.proofs.Origins.{AreSame, literals-decide, same_are}

-- two lists that begin with the same item
heads : (a b : ℕ) (r s : List ℕ) → a ∷ r ≡ b ∷ s → a ≡ b
heads a b r s e = cc

tails : (a b : ℕ) (r s : List ℕ) → a ∷ r ≡ b ∷ s → r ≡ s
tails a b r s e = cc

-- NAMES

below : (b : ℕ) → nat_lt b 2 ≡ true → b < 2
below b e = (Decides-ltb b 2).0 e

not_below : (b n : ℕ) → nat_lt b 2 ≡ false → b ≡ n → n < 2 → ⊥
not_below b n e is lt = let less : b < 2 = omega (arith, is, lt) in let bad : nat_lt b 2 ≡ true = (Decides-ltb b 2).1 less in let worse : true ≡ false = sym bad ∙ e in cc

abbrev byte_then : Bool → ℕ → List ℕ → List ℕ
byte_then t b rest = cond t (1 ∷ b ∷ []) (b ∷ []) ++ rest

no_end : (b : ℕ) (r s : List ℕ) (t : Bool) → nat_lt b 2 ≡ t → 0 ∷ r ≡ byte_then t b s → ⊥
no_end b r s true is e = let bad : 0 ≡ 1 = heads 0 1 r (b ∷ s) e in omega (arith, bad)
no_end b r s false is e = not_below b 0 is (sym (heads 0 b r s e)) (omega arith)

one_byte : (b c : ℕ) (r s : List ℕ) (t u : Bool) → nat_lt b 2 ≡ t → nat_lt c 2 ≡ u → byte_then t b r ≡ byte_then u c s → (b ≡ c) × (r ≡ s)
one_byte b c r s true true is also e = let rest : b ∷ r ≡ c ∷ s = tails 1 1 (b ∷ r) (c ∷ s) e in (heads b c r s rest, tails b c r s rest)
one_byte b c r s true false is also e = absurd (not_below c 1 also (sym (heads 1 c (b ∷ r) s e)) (omega arith))
one_byte b c r s false true is also e = absurd (not_below b 1 is (heads b 1 r (c ∷ s) e) (omega arith))
one_byte b c r s false false is also e = (heads b c r s e, tails b c r s e)

more_bytes : (b : ℕ) (x r : List ℕ) → flat_map encoded_byte (b ∷ x) ++ r ≡ byte_then (nat_lt b 2) b (flat_map encoded_byte x ++ r)
more_bytes b x r = append_assoc (encoded_byte b) (flat_map encoded_byte x) r

name_told : (x y r s : List ℕ) → flat_map encoded_byte x ++ 0 ∷ r ≡ flat_map encoded_byte y ++ 0 ∷ s → (x ≡ y) × (r ≡ s)
name_told [] [] r s e = (refl, tails 0 0 r s e)
name_told [] (c ∷ y) r s e = absurd (no_end c r (flat_map encoded_byte y ++ 0 ∷ s) (nat_lt c 2) refl (e ∙ more_bytes c y (0 ∷ s)))
name_told (b ∷ x) [] r s e = absurd (no_end b s (flat_map encoded_byte x ++ 0 ∷ r) (nat_lt b 2) refl (sym e ∙ more_bytes b x (0 ∷ r)))
name_told (b ∷ x) (c ∷ y) r s e =
    let first = one_byte b c (flat_map encoded_byte x ++ 0 ∷ r) (flat_map encoded_byte y ++ 0 ∷ s) (nat_lt b 2) (nat_lt c 2) refl refl (sym (more_bytes b x (0 ∷ r)) ∙ (e ∙ more_bytes c y (0 ∷ s))) in
    let rest = name_told x y r s first.1 in
    (ap (λ (n : ℕ). n ∷ x) first.0 ∙ ap (λ (l : List ℕ). c ∷ l) rest.0, rest.1)

-- a name's bytes, and then those of the others
more_names : (x : Word) (xs : List Word) (r : List ℕ) → encoded_names (x ∷ xs) ++ r ≡ 1 ∷ (flat_map encoded_byte x ++ 0 ∷ (encoded_names xs ++ r))
more_names x xs r =
    append_assoc (encoded_name x) (encoded_names xs) r
    ∙ ap (λ (l : List ℕ). 1 ∷ l) (append_assoc (flat_map encoded_byte x) (0 ∷ []) (encoded_names xs ++ r))

names_told : (xs ys : List Word) (r s : List ℕ) → encoded_names xs ++ 0 ∷ r ≡ encoded_names ys ++ 0 ∷ s → (xs ≡ ys) × (r ≡ s)
names_told [] [] r s e = (refl, tails 0 0 r s e)
names_told [] (y ∷ ys) r s e = absurd (let bad : 0 ≡ 1 = heads 0 1 r _ (e ∙ more_names y ys (0 ∷ s)) in omega (arith, bad))
names_told (x ∷ xs) [] r s e = absurd (let bad : 0 ≡ 1 = heads 0 1 s _ (sym e ∙ more_names x xs (0 ∷ r)) in omega (arith, bad))
names_told (x ∷ xs) (y ∷ ys) r s e =
    let both : flat_map encoded_byte x ++ 0 ∷ (encoded_names xs ++ 0 ∷ r) ≡ flat_map encoded_byte y ++ 0 ∷ (encoded_names ys ++ 0 ∷ s) = tails 1 1 _ _ (sym (more_names x xs (0 ∷ r)) ∙ (e ∙ more_names y ys (0 ∷ s))) in
    let first = name_told x y _ _ both in
    let rest = names_told xs ys r s first.1 in
    (ap (λ (n : Word). n ∷ xs) first.0 ∙ ap (λ (l : List Word). y ∷ l) rest.0, rest.1)

-- ROWS

not_ten : (l : Literal) → 10 ≡ literal_byte l → ⊥
not_ten Zero e = omega (arith, e)
not_ten One e = omega (arith, e)
not_ten Any e = omega (arith, e)

same_literal : (a b : Literal) → literal_byte a ≡ literal_byte b → a ≡ b
same_literal Zero Zero e = refl
same_literal One One e = refl
same_literal Any Any e = refl
same_literal Zero One e = absurd (omega (arith, e))
same_literal Zero Any e = absurd (omega (arith, e))
same_literal One Zero e = absurd (omega (arith, e))
same_literal One Any e = absurd (omega (arith, e))
same_literal Any Zero e = absurd (omega (arith, e))
same_literal Any One e = absurd (omega (arith, e))

row_told : (r q : List Literal) (s t : List ℕ) → map literal_byte r ++ 10 ∷ s ≡ map literal_byte q ++ 10 ∷ t → (r ≡ q) × (s ≡ t)
row_told [] [] s t e = (refl, tails 10 10 s t e)
row_told [] (l ∷ q) s t e = absurd (not_ten l (heads 10 (literal_byte l) s _ e))
row_told (l ∷ r) [] s t e = absurd (not_ten l (sym (heads (literal_byte l) 10 _ t e)))
row_told (l ∷ r) (k ∷ q) s t e =
    let first : l ≡ k = same_literal l k (heads (literal_byte l) (literal_byte k) _ _ e) in
    let rest = row_told r q s t (tails (literal_byte l) (literal_byte k) _ _ e) in
    (ap (λ (n : Literal). n ∷ r) first ∙ ap (λ (l : List Literal). k ∷ l) rest.0, rest.1)

more_rows : (r : List Literal) (rows : List (List Literal)) → encoded_rows (r ∷ rows) ≡ map literal_byte r ++ 10 ∷ encoded_rows rows
more_rows r rows = append_assoc (map literal_byte r) (10 ∷ []) (encoded_rows rows)

some_row : (r : List Literal) (s : List ℕ) → [] ≡ map literal_byte r ++ 10 ∷ s → ⊥
some_row [] s e = cc
some_row (l ∷ r) s e = cc

rows_told : (rows others : List (List Literal)) → encoded_rows rows ≡ encoded_rows others → rows ≡ others
rows_told [] [] e = refl
rows_told [] (q ∷ others) e = absurd (some_row q (encoded_rows others) (e ∙ more_rows q others))
rows_told (r ∷ rows) [] e = absurd (some_row r (encoded_rows rows) (sym e ∙ more_rows r rows))
rows_told (r ∷ rows) (q ∷ others) e =
    let first = row_told r q (encoded_rows rows) (encoded_rows others) (sym (more_rows r rows) ∙ (e ∙ more_rows q others)) in
    ap (λ (l : List Literal). l ∷ rows) first.0 ∙ ap (λ (l : List (List Literal)). q ∷ l) (rows_told rows others first.1)

ending_told : (a b : Bool) → encoded_ending a ≡ encoded_ending b → a ≡ b
ending_told true true e = refl
ending_told false false e = refl
ending_told true false e = absurd (omega (arith, e))
ending_told false true e = absurd (omega (arith, e))

-- COVERS

told_are : (c d : Cover) → encoding_of c ≡ encoding_of d → AreSame c d
told_are c d e =
    let first = names_told c.inputs d.inputs (encoded_ending c.on ∷ encoded_rows c.rows) (encoded_ending d.on ∷ encoded_rows d.rows) e in
    record {
      inputs = first.0;
      on = ending_told c.on d.on (heads (encoded_ending c.on) (encoded_ending d.on) (encoded_rows c.rows) (encoded_rows d.rows) first.1);
      rows = rows_told c.rows d.rows (tails (encoded_ending c.on) (encoded_ending d.on) (encoded_rows c.rows) (encoded_rows d.rows) first.1);
    }

are_told : (c d : Cover) → AreSame c d → encoding_of c ≡ encoding_of d
are_told c d s =
    ap (λ (xs : List Word). encoded_names xs ++ (0 ∷ encoded_ending c.on ∷ encoded_rows c.rows)) s.inputs
    ∙ (ap (λ (on : Bool). encoded_names d.inputs ++ (0 ∷ encoded_ending on ∷ encoded_rows c.rows)) s.on
    ∙ ap (λ (rows : List (List Literal)). encoded_names d.inputs ++ (0 ∷ encoded_ending d.on ∷ encoded_rows rows)) s.rows)

are_same : (c d : Cover) → AreSame c d → is_same c d ≡ true
are_same c d s =
    both_and (pointwise is_word c.inputs d.inputs) (beq c.on d.on && pointwise (pointwise is_same_literal) c.rows d.rows)
    ((pointwise_decides (λ (x y : Word). bytes_eq-Decides x y) c.inputs d.inputs).1 s.inputs)
    (both_and (beq c.on d.on) (pointwise (pointwise is_same_literal) c.rows d.rows)
    ((booleans_Decides c.on d.on).1 s.on)
    ((pointwise_decides (pointwise_decides literals-decide) c.rows d.rows).1 s.rows))

same_test : (c d : Cover) → is_same c d ≡ is_word (encoding_of d) (encoding_of c)
same_test c d =
    let test : Decides (is_same c d) (AreSame c d) = (same_are c d, are_same c d) in
    let bytes : Decides (is_word (encoding_of d) (encoding_of c)) (AreSame c d) = (λ e. told_are c d (sym ((bytes_eq-Decides (encoding_of d) (encoding_of c)).0 e)), λ s. (bytes_eq-Decides (encoding_of d) (encoding_of c)).1 (sym (are_told c d s))) in
    one_answer (is_same c d) (is_word (encoding_of d) (encoding_of c)) test bytes

-- the output of the cover at a place, if there is one
abbrev pub output_from : List Cover → Option ℕ → Option Word
output_from cs None = None
output_from cs (Some k) = output_at cs k

later_output : (c : Cover) (cs : List Cover) (o : Option ℕ) → output_from (c ∷ cs) (option_map (λ k. suc k) o) ≡ output_from cs o
later_output c cs None = refl
later_output c cs (Some k) = refl

-- the first cover that is the same is at the first place of the bytes
pub first_is : (cs : List Cover) (d : Cover) → first_same cs d ≡ output_from cs (place_of (encodings cs) (encoding_of d))
first_is [] d = refl
first_is (c ∷ cs) d = go (is_word (encoding_of d) (encoding_of c)) (same_test c d) (first_is cs d)
  where
    go : (b : Bool) → is_same c d ≡ b → first_same cs d ≡ output_from cs (place_of (encodings cs) (encoding_of d))
        → cond (is_same c d) (Some c.output) (first_same cs d) ≡ output_from (c ∷ cs) (cond b (Some 0) (option_map (λ k. suc k) (place_of (encodings cs) (encoding_of d))))
    go true e rest = ap (λ (b : Bool). cond b (Some c.output) (first_same cs d)) e
    go false e rest = ap (λ (b : Bool). cond b (Some c.output) (first_same cs d)) e ∙ (rest ∙ sym (later_output c cs (place_of (encodings cs) (encoding_of d))))

-- what the map gives for a cover's bytes leads to the first cover that is the same
pub looked : {Y : Type 0} (m : BTreeMap (Vec ℕ Y) ℕ) (cs view : List Cover) (q : List ℕ) (d : Cover) (o : Option ℕ) → ((q : List ℕ) → at_bytes m q ≡ place_of (encodings cs) q) → cs ≡ view → o ≡ at_bytes m q → q ≡ encoding_of d → output_from view o ≡ first_same view d
looked m cs view q d o at is e f =
    ap (output_from view) (e ∙ (at q ∙ (ap (λ (l : List Cover). place_of (encodings l) q) is ∙ ap (place_of (encodings view)) f)))
    ∙ sym (first_is view d)

more_encodings : (cs : List Cover) (c : Cover) → encodings (cs ++ c ∷ []) ≡ encodings cs ++ encoding_of c ∷ []
more_encodings cs c = map-append encoding_of cs (c ∷ [])

-- a cover with new bytes, whose place went into the map
pub placed-new : {Y : Type 0} (m n : BTreeMap (Vec ℕ Y) ℕ) (cs : List Cover) (c : Cover) (bs : List ℕ) (p : ℕ) → ((q : List ℕ) → at_bytes m q ≡ place_of (encodings cs) q) → bs ≡ encoding_of c → is_some (at_bytes m bs) ≡ false → p ≡ length cs
    → UpdatesBy (λ (x y : Vec ℕ Y). slice_cmp nat_cmp x.items y.items) (λ (k : Vec ℕ Y). slice_cmp nat_cmp bs k.items) m n (Some p) → (q : List ℕ) → at_bytes n q ≡ place_of (encodings (cs ++ c ∷ [])) q
placed-new m n cs c bs p at is new count u q =
    inserted m n bs (Some p) u q
    ∙ (ap (cond (bytes_eq bs q) (Some p)) (at q)
    ∙ (ap (λ (k : ℕ). cond (bytes_eq bs q) (Some k) (place_of (encodings cs) q)) (count ∙ sym (length-map cs encoding_of))
    ∙ (sym (place_new (encodings cs) bs q (ap is_some (sym (at bs)) ∙ new))
    ∙ (ap (λ (b : List ℕ). place_of (encodings cs ++ b ∷ []) q) is
    ∙ ap (λ (l : List (List ℕ)). place_of l q) (sym (more_encodings cs c))))))

-- a cover whose bytes were there
pub placed-again : {Y : Type 0} (m : BTreeMap (Vec ℕ Y) ℕ) (cs : List Cover) (c : Cover) (bs : List ℕ) → ((q : List ℕ) → at_bytes m q ≡ place_of (encodings cs) q) → bs ≡ encoding_of c → is_some (at_bytes m bs) ≡ true
    → (q : List ℕ) → at_bytes m q ≡ place_of (encodings (cs ++ c ∷ [])) q
placed-again m cs c bs at is there q =
    at q
    ∙ (sym (place_again (encodings cs) bs q (ap is_some (sym (at bs)) ∙ there))
    ∙ (ap (λ (b : List ℕ). place_of (encodings cs ++ b ∷ []) q) is
    ∙ ap (λ (l : List (List ℕ)). place_of l q) (sym (more_encodings cs c))))
