-- The covers of a model taken in order: each output is new, and each input is known.
use Rattle.std.proofs.Common.{◌≡◌, ℕ, zero, suc, ◌<◌, ◌+◌, ◌-◌, set, replicate, append_assoc, List, [], ◌∷◌, ◌++◌, map, length, take, get_or, Bool, true, false, Some, ◌⊎◌, inl, inr, refl, sym, ap, ◌∙◌, subst, arith}
use Rattle.std.specs.Prelude.{slice_get, All}
use Rattle.std.specs.Option.{option_map}
use Rattle.std.proofs.lemmas.List.{length-map, map_more}
use Rattle.std.proofs.lemmas.Option.{slice_get-map, slice_get_within, slice_get-get_or, slice_get_read, get_or_from_slice_get}
use Rattle.std.proofs.lemmas.Bool.{false_from_ne_true}
use Rattle.rm_model.specs.Value.{is_among, value_of, outputs_of}
use Rattle.rm_model.specs.WellFormed.{is_distinct, IsWellFormedCover}
use Rattle.rm_model.specs.Ranks.{cover_of}
use Rattle.rm_model.specs.Inner.Numbers.{drivers_of}
use Rattle.rm_model.specs.Inner.Search.{list_at, IsIn, IsOrder}
use Rattle.rm_model.specs.declared.parts.Cover.{Cover}
use Rattle.rm_model.proofs.CoverLemmas.{among-at, at-among, output-at, drives-own, distinct-right}
use Rattle.rm_model.proofs.NameLemmas.{among-append, among-left, among-right, distinct-apart, same-place, in-filter_map}
use Rattle.rm_base.proofs.Public.{all_at, all_from_places, map_found}
use Rattle.rm_base.specs.Words.{Word}

pub get-take : {X : Type 0} (n : ℕ) (xs : List X) (p : ℕ) (x : X) → slice_get (take n xs) p ≡ Some x → (p < n) × (slice_get xs p ≡ Some x)
get-take zero [] p x e = absurd cc
get-take zero (y ∷ xs) p x e = absurd cc
get-take (suc n) [] p x e = absurd cc
get-take (suc n) (y ∷ xs) zero x e = (omega arith, e)
get-take (suc n) (y ∷ xs) (suc p) x e = let r = get-take n xs p x e in (omega (arith, r.0), r.1)

pub take-get : {X : Type 0} (n : ℕ) (xs : List X) (p : ℕ) (x : X) → p < n → slice_get xs p ≡ Some x → slice_get (take n xs) p ≡ Some x
take-get zero xs p x lt e = absurd (omega (arith, lt))
take-get (suc n) [] p x lt e = absurd cc
take-get (suc n) (y ∷ xs) zero x lt e = e
take-get (suc n) (y ∷ xs) (suc p) x lt e = take-get n xs p x (omega (arith, lt)) e

module _ (covers : List Cover) where
  -- the outputs of the covers at these places
  abbrev pub outputs_at : List ℕ → List Word
  outputs_at order = map (list_at (outputs_of covers)) order

  output-here : (k : ℕ) (c : Cover) → slice_get covers k ≡ Some c → list_at (outputs_of covers) k ≡ c.output
  output-here k c e = get_or_from_slice_get (outputs_of covers) k c.output [] (output-at covers k c e)

  module _ (names : List Word) (once : is_distinct (names ++ outputs_of covers) ≡ true) (order : List ℕ) (is_order : IsOrder (map (drivers_of covers) covers) order) (i k : ℕ) (c : Cover) (at : slice_get order i ≡ Some k) (there : slice_get covers k ≡ Some c) where
    pub output-new : is_among (names ++ outputs_at (take i order)) c.output ≡ false
    output-new = false_from_ne_true (is_among (names ++ outputs_at (take i order)) c.output) (λ e. by (among-append names (outputs_at (take i order)) c.output e))
      where
        mine : slice_get (outputs_of covers) k ≡ Some c.output
        mine = output-at covers k c there

        by : (is_among names c.output ≡ true) ⊎ (is_among (outputs_at (take i order)) c.output ≡ true) → ⊥
        by (inl old) = distinct-apart names (outputs_of covers) c.output once old (among-at (outputs_of covers) k c.output mine)
        by (inr before) =
            let place : (p : ℕ) × (slice_get (outputs_at (take i order)) p ≡ Some c.output) = at-among (outputs_at (take i order)) c.output before in
            let other : (j : ℕ) × ((slice_get (take i order) place.0 ≡ Some j) × (list_at (outputs_of covers) j ≡ c.output)) = map_found (list_at (outputs_of covers)) (take i order) place.0 c.output place.1 in
            let earlier = get-take i order place.0 other.0 other.1.0 in
            let within : other.0 < length covers = omega (arith, is_order.within place.0 other.0 earlier.1, length-map covers (drivers_of covers)) in
            let theirs : slice_get (outputs_of covers) other.0 ≡ Some c.output = slice_get-get_or (outputs_of covers) other.0 [] (omega (arith, within, length-map covers (λ (c : Cover). c.output))) ∙ ap Some other.1.1 in
            let same : other.0 ≡ k = same-place (outputs_of covers) other.0 k c.output (distinct-right names (outputs_of covers) once) theirs mine in
            let one : place.0 ≡ i = is_order.once place.0 i k (earlier.1 ∙ ap Some same) at in
            absurd (omega (arith, one, earlier.0))

    pub input-known : (x : Word) (p : ℕ) → slice_get c.inputs p ≡ Some x → is_among (names ++ outputs_of covers) x ≡ true → is_among (names ++ outputs_at (take i order)) x ≡ true
    input-known x p reads driven = by (among-append names (outputs_of covers) x driven)
      where
        by : (is_among names x ≡ true) ⊎ (is_among (outputs_of covers) x ≡ true) → is_among (names ++ outputs_at (take i order)) x ≡ true
        by (inl old) = among-left names (outputs_at (take i order)) x old
        by (inr output) =
            let place : (j : ℕ) × (slice_get (outputs_of covers) j ≡ Some x) = at-among (outputs_of covers) x output in
            let d : (e : Cover) × ((slice_get covers place.0 ≡ Some e) × (e.output ≡ x)) = map_found (λ (c : Cover). c.output) covers place.0 x place.1 in
            let own : cover_of covers x ≡ Some place.0 = subst (λ (w : Word). cover_of covers w ≡ Some place.0) d.1.1 (drives-own covers place.0 d.0 (distinct-right names (outputs_of covers) once) d.1.0) in
            let mine : IsIn (drivers_of covers c) place.0 = in-filter_map (cover_of covers) c.inputs p place.0 x reads own in
            let list : list_at (map (drivers_of covers) covers) k ≡ drivers_of covers c = get_or_from_slice_get (map (drivers_of covers) covers) k (drivers_of covers c) [] (slice_get-map (drivers_of covers) covers k ∙ ap (option_map (drivers_of covers)) there) in
            let behind : (q : ℕ) × ((q < i) × (slice_get order q ≡ Some place.0)) = is_order.behind i k place.0 at (subst (λ (l : List ℕ). IsIn l place.0) (sym list) mine) in
            let named : list_at (outputs_of covers) place.0 ≡ x = output-here place.0 d.0 d.1.0 ∙ d.1.1 in
            let stands : slice_get (outputs_at (take i order)) behind.0 ≡ Some x = slice_get-map (list_at (outputs_of covers)) (take i order) behind.0 ∙ (ap (option_map (list_at (outputs_of covers))) (take-get i order behind.0 place.0 behind.1.0 behind.1.1) ∙ ap Some named) in
            among-right names (outputs_at (take i order)) x (among-at (outputs_at (take i order)) behind.0 x stands)

  -- where all covers stand in the order, all outputs are known
  pub all-known : (names : List Word) (order : List ℕ) → ((k : ℕ) → k < length covers → IsIn order k) → (x : Word) → is_among (names ++ outputs_of covers) x ≡ true → is_among (names ++ outputs_at order) x ≡ true
  all-known names order all x driven = by (among-append names (outputs_of covers) x driven)
    where
      by : (is_among names x ≡ true) ⊎ (is_among (outputs_of covers) x ≡ true) → is_among (names ++ outputs_at order) x ≡ true
      by (inl old) = among-left names (outputs_at order) x old
      by (inr output) =
          let place : (j : ℕ) × (slice_get (outputs_of covers) j ≡ Some x) = at-among (outputs_of covers) x output in
          let within : place.0 < length covers = omega (arith, slice_get_within (outputs_of covers) place.0 x place.1, length-map covers (λ (c : Cover). c.output)) in
          let stands : IsIn order place.0 = all place.0 within in
          let named : list_at (outputs_of covers) place.0 ≡ x = get_or_from_slice_get (outputs_of covers) place.0 x [] place.1 in
          let here : slice_get (outputs_at order) stands.0 ≡ Some x = slice_get-map (list_at (outputs_of covers)) order stands.0 ∙ (ap (option_map (list_at (outputs_of covers))) stands.1 ∙ ap Some named) in
          among-right names (outputs_at order) x (among-at (outputs_at order) stands.0 x here)

  -- one more cover of the order
  module _ (names : List Word) (once : is_distinct (names ++ outputs_of covers) ≡ true) (order : List ℕ) (is_order : IsOrder (map (drivers_of covers) covers) order) (i : ℕ) (lt : i < length order) (c : Cover) (is : c ≡ get_or covers (get_or order i 0) c) where
    stands-at : slice_get order i ≡ Some (get_or order i 0)
    stands-at = slice_get-get_or order i 0 lt

    stands-there : slice_get covers (get_or order i 0) ≡ Some c
    stands-there = slice_get_read covers (length covers) (get_or order i 0) c refl (omega (arith, is_order.within i (get_or order i 0) stands-at, length-map covers (drivers_of covers))) is

    pub step-new : is_among (names ++ outputs_at (take i order)) c.output ≡ false
    step-new = output-new names once order is_order i (get_or order i 0) c stands-at stands-there

    pub step-inputs : All (λ (c : Cover). All (λ x. is_among (names ++ outputs_of covers) x ≡ true) c.inputs) covers → All (λ x. is_among (names ++ outputs_at (take i order)) x ≡ true) c.inputs
    step-inputs driven =
        let mine = all_at (λ (c : Cover). All (λ x. is_among (names ++ outputs_of covers) x ≡ true) c.inputs) covers (get_or order i 0) c driven stands-there in
        all_from_places (λ (x : Word). is_among (names ++ outputs_at (take i order)) x ≡ true) c.inputs (λ p x at. input-known names once order is_order i (get_or order i 0) c stands-at stands-there x p at (all_at (λ (x : Word). is_among (names ++ outputs_of covers) x ≡ true) c.inputs p x mine at))

    pub step-rows : All IsWellFormedCover covers → All (λ r. length r ≡ length c.inputs) c.rows
    step-rows formed = let mine : IsWellFormedCover c = all_at IsWellFormedCover covers (get_or order i 0) c formed stands-there in mine.row_lengths

    pub step-names : (names ++ outputs_at (take i order)) ++ c.output ∷ [] ≡ names ++ outputs_at (take (i + 1) order)
    step-names =
        let more : outputs_at (take (i + 1) order) ≡ outputs_at (take i order) ++ list_at (outputs_of covers) (get_or order i 0) ∷ [] = map_more (list_at (outputs_of covers)) order i 0 lt in
        let own : list_at (outputs_of covers) (get_or order i 0) ≡ c.output = output-here (get_or order i 0) c stands-there in
        append_assoc names (outputs_at (take i order)) (c.output ∷ []) ∙ ap (λ (l : List Word). names ++ l) (ap (λ (w : Word). outputs_at (take i order) ++ w ∷ []) (sym own) ∙ sym more)

    pub step-value : (v : Word → Bool) → All (λ (c : Cover). v c.output ≡ value_of c (map v c.inputs)) covers → v c.output ≡ value_of c (map v c.inputs)
    step-value v consistent = all_at (λ (c : Cover). v c.output ≡ value_of c (map v c.inputs)) covers (get_or order i 0) c consistent stands-there

-- a list of zeros is written over from the front
put-next : (xs : List Bool) (i m : ℕ) (b : Bool) → length xs ≡ i + suc m → slice_get xs i ≡ Some b → set (take i xs ++ replicate (suc m) false) i b ≡ take (suc i) xs ++ replicate m false
put-next [] i m b e at = absurd (omega (arith, e))
put-next (x ∷ []) zero m b e at = let is : x ≡ b = cc in ap (λ (c : Bool). c ∷ replicate m false) (sym is)
put-next (x ∷ y ∷ xs) zero m b e at = let is : x ≡ b = cc in ap (λ (c : Bool). c ∷ replicate m false) (sym is)
put-next (x ∷ xs) (suc i) m b e at = ap (λ (l : List Bool). x ∷ l) (put-next xs i m b (omega (arith, e)) at)

pub put-more : (xs : List Bool) (i : ℕ) (b : Bool) → i < length xs → slice_get xs i ≡ Some b → set (take i xs ++ replicate (length xs - i) false) i b ≡ take (i + 1) xs ++ replicate (length xs - (i + 1)) false
put-more xs i b lt at =
    let here : length xs - i ≡ suc (length xs - (i + 1)) = omega (arith, lt) in
    let next : i + 1 ≡ suc i = omega arith in
    ap (λ (n : ℕ). set (take i xs ++ replicate n false) i b) here ∙ (put-next xs i (length xs - (i + 1)) b (omega (arith, lt)) at ∙ ap (λ (n : ℕ). take n xs ++ replicate (length xs - (i + 1)) false) (sym next))
