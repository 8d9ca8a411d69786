-- Spelled models: no parity cover is left, each cover has the value that it had, and the model is well formed and ranked where it was.
use Rattle.std.proofs.Common.{◌≡◌, ◌<◌, inl, inr, ℕ, Bool, true, false, cond, not, List, [], ◌∷◌, ◌++◌, length, map, refl, sym, ap, subst, ◌∙◌}
use Rattle.std.specs.Prelude.{All, Some, None, Option, slice_index_or, ◌||◌}
use Rattle.std.specs.List.{filter_map, flat_map, list_all, list_any}
use Rattle.std.specs.Option.{option_map}
use Rattle.std.proofs.lemmas.List.Elements.{All-map}
use Rattle.rm_model.specs.Value.{IsConsistent, IsRanked, control_of, is_among, is_cover_output, outputs_of, source_names, value_of, value_of_rows}
use Rattle.rm_model.specs.WellFormed.{IsWellFormed, IsWellFormedCover, driven_names, is_distinct, is_token, names_of, used_names}
use Rattle.rm_model.specs.Words.{is_word}
use Rattle.rm_model.specs.declared.parts.Literal.{Literal}
use Rattle.rm_model.specs.declared.parts.Cover.{Cover}
use Rattle.rm_model.specs.declared.parts.Latch.{Latch}
use Rattle.rm_model.specs.declared.parts.Model.{Model}
use Rattle.cover_decompose.specs.Parity.{are_two, differ_in, differ_in_rows, parity_ending}
use Rattle.cover_decompose.specs.Spelled.{first_again, spelled, spelled_by, spelled_cover, with_any}
use Rattle.rm_base.specs.Members.{In}
use Rattle.rm_base.specs.Words.{Word}
use Rattle.rm_base.proofs.Public.{all_at, all_from_places, in_append, in_at, list_all-join, list_all-parts, place_of_member}

-- THE FORM OF A PARITY COVER

two_names : (xs : List Word) → are_two xs ≡ true → (x y : Word) × (xs ≡ x ∷ y ∷ [])
two_names (x ∷ y ∷ []) e = (x, y, refl)
two_names xs e = absurd cc

record HasFour (rows : List (List Literal)) : Type 0 where
  one : Literal
  two : Literal
  three : Literal
  four : Literal
  are : rows ≡ (one ∷ two ∷ []) ∷ (three ∷ four ∷ []) ∷ []

pair_rows : (r s : List Literal) (differ : Bool) → differ_in r s ≡ Some differ → HasFour (r ∷ s ∷ [])
pair_rows (x ∷ y ∷ []) (z ∷ w ∷ []) differ e = record { one = x; two = y; three = z; four = w; are = refl }
pair_rows r s differ e = absurd cc

two_rows : (rows : List (List Literal)) (differ : Bool) → differ_in_rows rows ≡ Some differ → HasFour rows
two_rows (r ∷ s ∷ []) differ e = pair_rows r s differ e
two_rows rows differ e = absurd cc

record HasForm (c : Cover) : Type 0 where
  names : (x y : Word) × (c.inputs ≡ x ∷ y ∷ [])
  rows : HasFour c.rows

form : (c : Cover) (ends : Bool) → parity_ending c ≡ Some ends → HasForm c
form c ends e = by_names (are_two c.inputs) refl e
  where
    by_rows : (o : Option Bool) → differ_in_rows c.rows ≡ o → are_two c.inputs ≡ true → option_map (λ (differ : Bool). cond differ c.on (not c.on)) o ≡ Some ends → HasForm c
    by_rows None f two e = absurd cc
    by_rows (Some differ) f two e = record { names = two_names c.inputs two; rows = two_rows c.rows differ f }

    by_names : (two : Bool) → are_two c.inputs ≡ two → cond two (option_map (λ (differ : Bool). cond differ c.on (not c.on)) (differ_in_rows c.rows)) None ≡ Some ends → HasForm c
    by_names false two e = absurd cc
    by_names true two e = by_rows (differ_in_rows c.rows) refl two e

-- ONE COVER

-- three inputs are no two
not_two : (xs : List Word) (x y : Word) → xs ≡ x ∷ y ∷ [] → are_two (first_again xs) ≡ false
not_two xs x y e = subst (λ (l : List Word). are_two (first_again l) ≡ false) (sym e) refl

plain_by : (c : Cover) (o : Option Bool) → parity_ending c ≡ o → parity_ending (spelled_by o c) ≡ None
plain_by c None e = e
plain_by c (Some ends) e =
    let names = (form c ends e).names in
    ap (λ (two : Bool). cond two (option_map (λ (differ : Bool). cond differ c.on (not c.on)) (differ_in_rows (map with_any c.rows))) None) (not_two c.inputs names.0 names.1 names.2)

pub plain : (c : Cover) → parity_ending (spelled_cover c) ≡ None
plain c = plain_by c (parity_ending c) refl

same_of_four : (xs : List Word) (x y : Word) (on : Bool) (v : Word → Bool) (p q r s : Literal) → xs ≡ x ∷ y ∷ []
    → value_of_rows (map with_any ((p ∷ q ∷ []) ∷ (r ∷ s ∷ []) ∷ [])) on (map v (first_again xs)) ≡ value_of_rows ((p ∷ q ∷ []) ∷ (r ∷ s ∷ []) ∷ []) on (map v xs)
same_of_four xs x y on v p q r s e =
    let four : List (List Literal) = (p ∷ q ∷ []) ∷ (r ∷ s ∷ []) ∷ [] in
    subst (λ (l : List Word). value_of_rows (map with_any four) on (map v (first_again l)) ≡ value_of_rows four on (map v l)) (sym e) refl

same_value : (c : Cover) (v : Word → Bool) → HasForm c → value_of_rows (map with_any c.rows) c.on (map v (first_again c.inputs)) ≡ value_of_rows c.rows c.on (map v c.inputs)
same_value c v h =
    subst (λ (rows : List (List Literal)). value_of_rows (map with_any rows) c.on (map v (first_again c.inputs)) ≡ value_of_rows rows c.on (map v c.inputs)) (sym h.rows.are)
    (same_of_four c.inputs h.names.0 h.names.1 c.on v h.rows.one h.rows.two h.rows.three h.rows.four h.names.2)

agrees_by : (v : Word → Bool) (c : Cover) (o : Option Bool) → parity_ending c ≡ o → v c.output ≡ value_of c (map v c.inputs) → v (spelled_by o c).output ≡ value_of (spelled_by o c) (map v (spelled_by o c).inputs)
agrees_by v c None e h = h
agrees_by v c (Some ends) e h = h ∙ sym (same_value c v (form c ends e))

lengths_of_four : (p q r s : Literal) (xs : List Word) (x y : Word) → xs ≡ x ∷ y ∷ [] → All (λ (l : List Literal). length l ≡ length (first_again xs)) (map with_any ((p ∷ q ∷ []) ∷ (r ∷ s ∷ []) ∷ []))
lengths_of_four p q r s xs x y e =
    let four : List (List Literal) = (p ∷ q ∷ []) ∷ (r ∷ s ∷ []) ∷ [] in
    subst (λ (l : List Word). All (λ (row : List Literal). length row ≡ length (first_again l)) (map with_any four)) (sym e)
    (all_from_members (λ (row : List Literal). length row ≡ 3) (map with_any four) three)
  where
    all_from_members : (P : List Literal → Type 0) (rows : List (List Literal)) → ((row : List Literal) → In rows row → P row) → All P rows
    all_from_members P rows h = all_from_places P rows (λ k row at. h row (in_at rows k row at))

    three : (row : List Literal) → In (map with_any ((p ∷ q ∷ []) ∷ (r ∷ s ∷ []) ∷ [])) row → length row ≡ 3
    three row (inl e) = sym (ap (λ (l : List Literal). length l) e)
    three row (inr (inl e)) = sym (ap (λ (l : List Literal). length l) e)
    three row (inr (inr e)) = absurd e

no_more_rows : (rows : List (List Literal)) (r s : List Literal) → rows ≡ r ∷ s ∷ [] → map with_any rows ≡ [] → ⊥
no_more_rows rows r s e none = absurd (two (subst (λ (l : List (List Literal)). map with_any l ≡ []) e none))
  where
    two : map with_any (r ∷ s ∷ []) ≡ [] → ⊥
    two f = absurd cc

formed_by : (c : Cover) (o : Option Bool) → parity_ending c ≡ o → IsWellFormedCover c → IsWellFormedCover (spelled_by o c)
formed_by c None e formed = formed
formed_by c (Some ends) e formed =
    let h = form c ends e in
    let f = h.rows in
    record {
      no_rows = λ none. absurd (no_more_rows c.rows (f.one ∷ f.two ∷ []) (f.three ∷ f.four ∷ []) f.are none);
      row_lengths = subst (λ (rows : List (List Literal)). All (λ (l : List Literal). length l ≡ length (first_again c.inputs)) (map with_any rows)) (sym f.are) (lengths_of_four f.one f.two f.three f.four c.inputs h.names.0 h.names.1 h.names.2);
    }

output_same : (o : Option Bool) (c : Cover) → (spelled_by o c).output ≡ c.output
output_same None c = refl
output_same (Some ends) c = refl

-- no input is new
again_in : (xs : List Word) (y : Word) → In (first_again xs) y → In xs y
again_in [] y h = h
again_in (x ∷ xs) y h = elim (in_append (x ∷ xs) (x ∷ []) y h) [ inl a ↦ a | inr b ↦ elim b [ inl e ↦ inl e | inr z ↦ absurd z ] ]

inputs_in : (o : Option Bool) (c : Cover) (y : Word) → In (spelled_by o c).inputs y → In c.inputs y
inputs_in None c y h = h
inputs_in (Some ends) c y h = again_in c.inputs y h

again_pass : (p : Word → Bool) (xs : List Word) → list_all p xs ≡ true → list_all p (first_again xs) ≡ true
again_pass p [] e = refl
again_pass p (x ∷ xs) e = list_all-join p (x ∷ xs) (x ∷ []) e (list_all-parts p (x ∷ []) xs e).0

inputs_pass : (p : Word → Bool) (o : Option Bool) (c : Cover) → list_all p c.inputs ≡ true → list_all p (spelled_by o c).inputs ≡ true
inputs_pass p None c e = e
inputs_pass p (Some ends) c e = again_pass p c.inputs e

-- ALL COVERS

outputs_same : (cs : List Cover) → outputs_of (map spelled_cover cs) ≡ outputs_of cs
outputs_same [] = refl
outputs_same (c ∷ cs) = ap (λ (x : Word). x ∷ outputs_of (map spelled_cover cs)) (output_same (parity_ending c) c) ∙ ap (λ (l : List Word). c.output ∷ l) (outputs_same cs)

driven_same : (cs : List Cover) (x : Word) → list_any (λ (c : Cover). is_word x c.output) (map spelled_cover cs) ≡ list_any (λ (c : Cover). is_word x c.output) cs
driven_same [] x = refl
driven_same (c ∷ cs) x =
    ap (λ (y : Word). is_word x y || list_any (λ (d : Cover). is_word x d.output) (map spelled_cover cs)) (output_same (parity_ending c) c) ∙ ap (λ (b : Bool). is_word x c.output || b) (driven_same cs x)

read_pass : (p : Word → Bool) (cs : List Cover) → list_all p (flat_map (λ (c : Cover). c.inputs) cs) ≡ true → list_all p (flat_map (λ (c : Cover). c.inputs) (map spelled_cover cs)) ≡ true
read_pass p [] e = refl
read_pass p (c ∷ cs) e =
    let parts = list_all-parts p c.inputs (flat_map (λ (c : Cover). c.inputs) cs) e in
    list_all-join p (spelled_cover c).inputs (flat_map (λ (c : Cover). c.inputs) (map spelled_cover cs)) (inputs_pass p (parity_ending c) c parts.0) (read_pass p cs parts.1)

used_pass : (p : Word → Bool) (m : Model) → list_all p (used_names m) ≡ true → list_all p (used_names (spelled m)) ≡ true
used_pass p m e =
    let own : List Word = flat_map (λ (c : Cover). c.inputs) m.covers in
    let made : List Word = flat_map (λ (c : Cover). c.inputs) (map spelled_cover m.covers) in
    let latched : List Word = map (λ (l : Latch). l.input) m.latches in
    let controls : List Word = filter_map control_of m.latches in
    let a = list_all-parts p ((m.outputs ++ own) ++ latched) controls e in
    let b = list_all-parts p (m.outputs ++ own) latched a.0 in
    let d = list_all-parts p m.outputs own b.0 in
    list_all-join p ((m.outputs ++ made) ++ latched) controls (list_all-join p (m.outputs ++ made) latched (list_all-join p m.outputs made d.0 (read_pass p m.covers d.1)) b.1) a.1

tokens_pass : (m : Model) → list_all is_token (names_of m) ≡ true → list_all is_token (names_of (spelled m)) ≡ true
tokens_pass m e =
    let a = list_all-parts is_token (m.name ∷ driven_names m) (m.clocks ++ used_names m) e in
    let b = list_all-parts is_token m.clocks (used_names m) a.1 in
    list_all-join is_token (m.name ∷ driven_names (spelled m)) (m.clocks ++ used_names (spelled m))
    (subst (λ (os : List Word). list_all is_token (m.name ∷ (source_names m ++ os)) ≡ true) (sym (outputs_same m.covers)) a.0)
    (list_all-join is_token m.clocks (used_names (spelled m)) b.0 (used_pass is_token m b.1))

-- THE MODEL

pub none_left : (m : Model) → All (λ (c : Cover). parity_ending c ≡ None) (spelled m).covers
none_left m = All-map (λ (c : Cover). parity_ending c ≡ None) spelled_cover m.covers (λ k d lt. plain (slice_index_or m.covers k d))

pub formed_spelled : (m : Model) → IsWellFormed m → IsWellFormed (spelled m)
formed_spelled m formed = record {
  tokens = tokens_pass m formed.tokens;
  inputs_once = formed.inputs_once;
  clocks_once = formed.clocks_once;
  driven_once = subst (λ (os : List Word). is_distinct (source_names m ++ os) ≡ true) (sym (outputs_same m.covers)) formed.driven_once;
  outputs_once = formed.outputs_once;
  all_driven = subst (λ (os : List Word). list_all (is_among (source_names m ++ os)) (used_names (spelled m)) ≡ true) (sym (outputs_same m.covers)) (used_pass (is_among (driven_names m)) m formed.all_driven);
  covers = All-map IsWellFormedCover spelled_cover m.covers (λ k d lt. let c : Cover = slice_index_or m.covers k d in formed_by c (parity_ending c) refl (formed.covers k d lt));
  inits = formed.inits;
  controls = formed.controls;
}

pub consistent_spelled : (m : Model) (v : Word → Bool) → IsConsistent m v → IsConsistent (spelled m) v
consistent_spelled m v h = All-map (λ (c : Cover). v c.output ≡ value_of c (map v c.inputs)) spelled_cover m.covers (λ k d lt. let c : Cover = slice_index_or m.covers k d in agrees_by v c (parity_ending c) refl (h k d lt))

module _ (m : Model) (rank : Word → ℕ) where
  ranked_by : (c : Cover) (o : Option Bool) → All (λ (x : Word). is_cover_output m x ≡ true → rank x < rank c.output) c.inputs
      → All (λ (x : Word). is_cover_output (spelled m) x ≡ true → rank x < rank (spelled_by o c).output) (spelled_by o c).inputs
  ranked_by c o h = all_from_places (λ (x : Word). is_cover_output (spelled m) x ≡ true → rank x < rank (spelled_by o c).output) (spelled_by o c).inputs (λ k x at driven.
      (let place = place_of_member c.inputs x (inputs_in o c x (in_at (spelled_by o c).inputs k x at)) in
      let lower : rank x < rank c.output = all_at (λ (y : Word). is_cover_output m y ≡ true → rank y < rank c.output) c.inputs place.0 x h place.1 (sym (driven_same m.covers x) ∙ driven) in
      subst (λ (y : Word). rank x < rank y) (sym (output_same o c)) lower))

pub ranked_spelled : (m : Model) → IsRanked m → IsRanked (spelled m)
ranked_spelled m r = (
  r.0,
  All-map (λ (c : Cover). All (λ (x : Word). is_cover_output (spelled m) x ≡ true → r.0 x < r.0 c.output) c.inputs) spelled_cover m.covers (λ k d lt. let c : Cover = slice_index_or m.covers k d in ranked_by m r.0 c (parity_ending c) (r.1 k d lt)),
)
