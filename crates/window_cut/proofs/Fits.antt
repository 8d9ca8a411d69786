-- What windows read and give fits together, whatever windows have the needed covers in order.
use Rattle.std.proofs.Common.{◌≡◌, ℕ, zero, suc, Bool, true, false, List, [], ◌∷◌, ◌++◌, take, flat_map, refl, sym, ap, ◌∙◌, subst, append_assoc, ◌⊎◌, inl, inr}
use Rattle.std.specs.Prelude.{Some, slice_get, if◌then◌else◌}
use Rattle.rm_base.proofs.Public.{in_append, in_at, in_contained, in_contains, in_filter, in_filtered, in_left, in_map, in_mapped, in_right, place_of_member}
use Rattle.rm_base.specs.Members.{In}
use Rattle.rm_base.specs.Words.{Word}
use Rattle.rm_model.proofs.Public.{distinct-apart, distinct-left, distinct-right, drives-of, some-drives}
use Rattle.rm_model.specs.Value.{is_among, is_cover_output, observed_names, outputs_of, source_names}
use Rattle.rm_model.specs.WellFormed.{is_distinct}
use Rattle.rm_model.specs.declared.parts.Cover.{Cover}
use Rattle.rm_model.specs.declared.parts.Model.{Model}
use Rattle.cover_decompose.proofs.Public.{among_in, in_among}
use Rattle.cover_decompose.specs.Needed.{IsNeeded, observed}
use Rattle.window_cut.proofs.Lists.{outputs-joined}
use Rattle.window_cut.proofs.Ordered.{distinct_join, not_among}
use Rattle.window_cut.specs.Inner.Reading.{Reading}
use Rattle.window_cut.proofs.Reading.{reading_before, reading_parts, reading_within}
use Rattle.window_cut.specs.Cut.{joined}
use Rattle.window_cut.specs.Laws.{AreInOrder, FitTogether, IsGivenOnce, IsReadElsewhere, outputs_before}
use Rattle.window_cut.specs.Windows.{new_names, read_names, wanted_names, window_inputs, window_outputs}

-- NEW NAMES

pub new_read : (known xs : List Word) (x : Word) → In (new_names known xs) x → In xs x
new_read known [] x i = i
new_read known (y ∷ xs) x i = by_test (is_among known y) (new_read known xs x) (new_read (known ++ y ∷ []) xs x) i
  where
    by_test : (b : Bool) → (In (new_names known xs) x → In xs x) → (In (new_names (known ++ y ∷ []) xs) x → In xs x) → In (if b then new_names known xs else y ∷ new_names (known ++ y ∷ []) xs) x → (y ≡ x) ⊎ In xs x
    by_test true f g i = inr (f i)
    by_test false f g (inl s) = inl s
    by_test false f g (inr i) = inr (g i)

not_here : (known : List Word) (y x : Word) → is_among (known ++ y ∷ []) x ≡ false → (is_among known x ≡ false) × (In (y ∷ []) x → ⊥)
not_here known y x e = (
  not_among known x (λ i. differ (among_in (known ++ y ∷ []) x (in_left known (y ∷ []) x i))),
  (λ i. differ (among_in (known ++ y ∷ []) x (in_right known (y ∷ []) x i))),
)
  where
    differ : is_among (known ++ y ∷ []) x ≡ true → ⊥
    differ t = let bad : true ≡ false = sym t ∙ e in cc

pub new_unknown : (known xs : List Word) (x : Word) → In (new_names known xs) x → is_among known x ≡ false
new_unknown known [] x i = absurd i
new_unknown known (y ∷ xs) x i = by_test (is_among known y) refl (new_unknown known xs x) (new_unknown (known ++ y ∷ []) xs x) i
  where
    by_test : (b : Bool) → is_among known y ≡ b → (In (new_names known xs) x → is_among known x ≡ false) → (In (new_names (known ++ y ∷ []) xs) x → is_among (known ++ y ∷ []) x ≡ false) → In (if b then new_names known xs else y ∷ new_names (known ++ y ∷ []) xs) x → is_among known x ≡ false
    by_test true e f g i = f i
    by_test false e f g (inl s) = subst (λ (z : Word). is_among known z ≡ false) s e
    by_test false e f g (inr i) = (not_here known y x (g i)).0

pub new_distinct : (known xs : List Word) → is_distinct (new_names known xs) ≡ true
new_distinct known [] = refl
new_distinct known (y ∷ xs) = by_test (is_among known y) (new_distinct known xs) (new_distinct (known ++ y ∷ []) xs)
  where
    by_test : (b : Bool) → is_distinct (new_names known xs) ≡ true → is_distinct (new_names (known ++ y ∷ []) xs) ≡ true → is_distinct (if b then new_names known xs else y ∷ new_names (known ++ y ∷ []) xs) ≡ true
    by_test true e f = e
    by_test false e f = distinct_join (y ∷ []) (new_names (known ++ y ∷ []) xs) refl f (λ x i j. (not_here known y x (new_unknown (known ++ y ∷ []) xs x j)).1 i)

pub read_new : (known xs : List Word) (x : Word) → In xs x → is_among known x ≡ false → In (new_names known xs) x
read_new known [] x i e = i
read_new known (y ∷ xs) x i e = by_test (is_among known y) refl (is_among (known ++ y ∷ []) x) refl (λ h. read_new known xs x h e) (read_new (known ++ y ∷ []) xs x) i
  where
    by_test : (b : Bool) → is_among known y ≡ b → (a : Bool) → is_among (known ++ y ∷ []) x ≡ a → (In xs x → In (new_names known xs) x) → (In xs x → is_among (known ++ y ∷ []) x ≡ false → In (new_names (known ++ y ∷ []) xs) x) → (y ≡ x) ⊎ In xs x → In (if b then new_names known xs else y ∷ new_names (known ++ y ∷ []) xs) x
    by_test true t a u f g (inl s) = let bad : true ≡ false = sym t ∙ (ap (is_among known) s ∙ e) in absurd cc
    by_test true t a u f g (inr i) = f i
    by_test false t a u f g (inl s) = inl s
    by_test false t false u f g (inr i) = inr (g i u)
    by_test false t true u f g (inr i) = elim (in_append known (y ∷ []) x (in_among (known ++ y ∷ []) x u)) [
      | inl h ↦ let bad : true ≡ false = sym (among_in known x h) ∙ e in absurd cc
      | inr h ↦ elim h [ inl s ↦ inl s | inr z ↦ absurd z ]
    ]

-- COVERS OF WINDOWS

pub outputs-window : (w : List Cover) (ws : List (List Cover)) → outputs_of (joined (w ∷ ws)) ≡ outputs_of w ++ outputs_of (joined ws)
outputs-window w ws = outputs-joined w (joined ws)

pub in_joined : (ws : List (List Cover)) (w : List Cover) (c : Cover) → In ws w → In w c → In (joined ws) c
in_joined [] w c h i = absurd h
in_joined (v ∷ ws) w c (inl s) i = in_left v (joined ws) c (subst (λ (l : List Cover). In l c) (sym s) i)
in_joined (v ∷ ws) w c (inr h) i = in_right v (joined ws) c (in_joined ws w c h i)

pub joined_in : (ws : List (List Cover)) (c : Cover) → In (joined ws) c → (w : List Cover) × (In ws w × In w c)
joined_in [] c i = absurd i
joined_in (v ∷ ws) c i = elim (in_append v (joined ws) c i) [ inl a ↦ (v, (inl refl, a)) | inr b ↦ let r = joined_in ws c b in (r.0, (inr r.1.0, r.1.1)) ]

pub in_flat : {A : Type 0} (f : A → List Word) (vs : List A) (v : A) (x : Word) → In vs v → In (f v) x → In (flat_map f vs) x
in_flat f [] v x h i = absurd h
in_flat f (u ∷ vs) v x (inl s) i = in_left (f u) (flat_map f vs) x (subst (λ (a : _). In (f a) x) (sym s) i)
in_flat f (u ∷ vs) v x (inr h) i = in_right (f u) (flat_map f vs) x (in_flat f vs v x h i)

pub flat_in : {A : Type 0} (f : A → List Word) (vs : List A) (x : Word) → In (flat_map f vs) x → (v : A) × (In vs v × In (f v) x)
flat_in f [] x i = absurd i
flat_in f (u ∷ vs) x i = elim (in_append (f u) (flat_map f vs) x i) [ inl a ↦ (u, (inl refl, a)) | inr b ↦ let r = flat_in f vs x b in (r.0, (inr r.1.0, r.1.1)) ]

pub giver : (ws : List (List Cover)) (x : Word) → In (outputs_of (joined ws)) x → (w : List Cover) × (In ws w × In (outputs_of w) x)
giver ws x i =
    let c = in_map (λ (c : Cover). c.output) (joined ws) x i in
    let w = joined_in ws c.0 c.1.0 in
    (w.0, (w.1.0, subst (λ (y : Word). In (outputs_of w.0) y) c.1.1 (in_mapped (λ (c : Cover). c.output) w.0 c.0 w.1.1)))

pub window_once : (ws : List (List Cover)) (w : List Cover) → is_distinct (outputs_of (joined ws)) ≡ true → In ws w → is_distinct (outputs_of w) ≡ true
window_once [] w once i = absurd i
window_once (v ∷ ws) w once (inl s) = subst (λ (l : List Cover). is_distinct (outputs_of l) ≡ true) s (distinct-left (outputs_of v) (outputs_of (joined ws)) (ap is_distinct (sym (outputs-window v ws)) ∙ once))
window_once (v ∷ ws) w once (inr i) = window_once ws w (distinct-right (outputs_of v) (outputs_of (joined ws)) (ap is_distinct (sym (outputs-window v ws)) ∙ once)) i

apart : (ws : List (List Cover)) (w v : List Cover) (x : Word) → is_distinct (outputs_of (joined (w ∷ ws))) ≡ true → In ws v → In (outputs_of w) x → In (outputs_of v) x → ⊥
apart ws w v x once h a b =
    let c = in_map (λ (c : Cover). c.output) v x b in
    let later : In (outputs_of (joined ws)) x = subst (λ (y : Word). In (outputs_of (joined ws)) y) c.1.1 (in_mapped (λ (c : Cover). c.output) (joined ws) c.0 (in_joined ws v c.0 h c.1.0)) in
    distinct-apart (outputs_of w) (outputs_of (joined ws)) x (ap is_distinct (sym (outputs-window w ws)) ∙ once) (among_in (outputs_of w) x a) (among_in (outputs_of (joined ws)) x later)

-- no other window gives an output
pub one_window : (ws : List (List Cover)) (i j : ℕ) (u v : List Cover) (x : Word) → is_distinct (outputs_of (joined ws)) ≡ true → slice_get ws i ≡ Some u → slice_get ws j ≡ Some v → In (outputs_of u) x → In (outputs_of v) x → i ≡ j
one_window [] i j u v x once e f a b = absurd cc
one_window (w ∷ ws) zero zero u v x once e f a b = refl
one_window (w ∷ ws) zero (suc j) u v x once e f a b = let is : u ≡ w = cc in absurd (apart ws w v x once (in_at ws j v f) (subst (λ (l : List Cover). In (outputs_of l) x) is a) b)
one_window (w ∷ ws) (suc i) zero u v x once e f a b = let is : v ≡ w = cc in absurd (apart ws w u x once (in_at ws i u e) (subst (λ (l : List Cover). In (outputs_of l) x) is b) a)
one_window (w ∷ ws) (suc i) (suc j) u v x once e f a b = ap suc (one_window ws i j u v x (distinct-right (outputs_of w) (outputs_of (joined ws)) (ap is_distinct (sym (outputs-window w ws)) ∙ once)) e f a b)

-- what a window reads from outside, windows before it give
earlier_in : (there : List Word) (ws : List (List Cover)) (k : ℕ) (w : List Cover) (x : Word) → Reading there (joined ws) → slice_get ws k ≡ Some w → In (window_inputs w) x → In (there ++ outputs_of (joined (take k ws))) x
earlier_in there [] k w x r e i = absurd cc
earlier_in there (v ∷ ws) zero w x r e i =
    let is : w ≡ v = cc in
    let here : In (window_inputs v) x = subst (λ (l : List Cover). In (window_inputs l) x) is i in
    elim (in_append there (outputs_of v) x (reading_within there v x (reading_parts there v (joined ws) r).0 (new_read (outputs_of v) (read_names v) x here))) [
      | inl a ↦ in_left there [] x a
      | inr b ↦ let bad : true ≡ false = sym (among_in (outputs_of v) x b) ∙ new_unknown (outputs_of v) (read_names v) x here in absurd cc
    ]
earlier_in there (v ∷ ws) (suc k) w x r e i =
    subst (λ (l : List Word). In l x) (append_assoc there (outputs_of v) (outputs_of (joined (take k ws))) ∙ ap (λ (l : List Word). there ++ l) (sym (outputs-window v (take k ws))))
    (earlier_in (there ++ outputs_of v) ws k w x (reading_parts there v (joined ws) r).1 e i)

taken_in : {A : Type 0} (xs : List A) (k : ℕ) (x : A) → In (take k xs) x → In xs x
taken_in [] zero x i = i
taken_in [] (suc k) x i = i
taken_in (y ∷ xs) zero x i = absurd i
taken_in (y ∷ xs) (suc k) x (inl s) = inl s
taken_in (y ∷ xs) (suc k) x (inr i) = inr (taken_in xs k x i)

module _ (m : Model) (ws : List (List Cover)) (order : AreInOrder m (joined ws)) where
  pub windows_reading : Reading (source_names m) (joined ws)
  windows_reading = reading_before (source_names m) (joined ws) (λ k c x at i. elim (order.before k c x at (among_in c.inputs x i)) [
    | inl s ↦ in_left (source_names m) (outputs_of (take k (joined ws))) x (in_among (source_names m) x s)
    | inr o ↦ in_right (source_names m) (outputs_of (take k (joined ws))) x (in_among (outputs_of (take k (joined ws))) x o)
  ])

  pub wanted_input : (w : List Cover) (x : Word) → In ws w → In (window_inputs w) x → is_among (wanted_names m ws) x ≡ true
  wanted_input w x h i = among_in (wanted_names m ws) x (in_right (observed_names m) (flat_map window_inputs ws) x (in_flat window_inputs ws w x h i))

  given_earlier : (k : ℕ) (w : List Cover) (x : Word) → slice_get ws k ≡ Some w → is_among (window_inputs w) x ≡ true → (is_among (source_names m) x ≡ true) ⊎ (is_among (outputs_before m ws k) x ≡ true)
  given_earlier k w x at r =
      let i = in_among (window_inputs w) x r in
      elim (in_append (source_names m) (outputs_of (joined (take k ws))) x (earlier_in (source_names m) ws k w x windows_reading at i)) [
        | inl s ↦ inl (among_in (source_names m) x s)
        | inr o ↦
            let v = giver (take k ws) x o in
            inr (among_in (outputs_before m ws k) x (in_flat (window_outputs m ws) (take k ws) v.0 x v.1.0 (in_filtered (is_among (wanted_names m ws)) (outputs_of v.0) x v.1.1 (wanted_input w x (in_at ws k w at) i))))
      ]

  pub given_once : (x : Word) → is_among (observed_names m) x ≡ true → is_cover_output m x ≡ true → IsGivenOnce m ws x
  given_once x seen driven =
      let j = some-drives m.covers x driven in
      let d = drives-of m.covers x j.0 j.1 in
      let needed : IsNeeded m d.cover.output = subst (λ (y : Word). IsNeeded m y) d.drives (observed seen) in
      let there = (order.needed d.cover).1 (in_contains m.covers d.cover (in_at m.covers j.0 d.cover d.there), needed) in
      let w = joined_in ws d.cover (in_contained (joined ws) d.cover there.0 there.1 there.2) in
      let p = place_of_member ws w.0 w.1.0 in
      let output : In (outputs_of w.0) x = subst (λ (y : Word). In (outputs_of w.0) y) (sym d.drives) (in_mapped (λ (c : Cover). c.output) w.0 d.cover w.1.1) in
      let wanted : is_among (wanted_names m ws) x ≡ true = among_in (wanted_names m ws) x (in_left (observed_names m) (flat_map window_inputs ws) x (in_among (observed_names m) x seen)) in
      record {
        place = p.0;
        window = w.0;
        there = p.1;
        gives = among_in (window_outputs m ws w.0) x (in_filtered (is_among (wanted_names m ws)) (outputs_of w.0) x output wanted);
        only = λ k v at g. one_window ws k p.0 v w.0 x order.once at p.1 (in_filter (is_among (wanted_names m ws)) (outputs_of v) x (in_among (window_outputs m ws v) x g)).0 output;
      }

  module _ (k : ℕ) (w : List Cover) (x : Word) (at : slice_get ws k ≡ Some w) (output : is_among (outputs_of w) x ≡ true) where
    wanted_elsewhere : is_among (window_outputs m ws w) x ≡ true → (is_among (observed_names m) x ≡ true) ⊎ IsReadElsewhere ws k x
    wanted_elsewhere e =
        elim (in_append (observed_names m) (flat_map window_inputs ws) x (in_among (wanted_names m ws) x (in_filter (is_among (wanted_names m ws)) (outputs_of w) x (in_among (window_outputs m ws w) x e)).1)) [
          | inl s ↦ inl (among_in (observed_names m) x s)
          | inr i ↦ inr (reader (flat_in window_inputs ws x i))
        ]
      where
        reader : (v : List Cover) × (In ws v × In (window_inputs v) x) → IsReadElsewhere ws k x
        reader v =
            let p = place_of_member ws v.0 v.1.0 in
            record {
              place = p.0;
              window = v.0;
              there = p.1;
              other = λ same.
                  let one : Some v.0 ≡ Some w = sym p.1 ∙ (ap (slice_get ws) same ∙ at) in
                  let is : v.0 ≡ w = cc in
                  let bad : true ≡ false = sym output ∙ (ap (λ (l : List Cover). is_among (outputs_of l) x) (sym is) ∙ new_unknown (outputs_of v.0) (read_names v.0) x v.1.1) in
                  cc;
              reads = among_in (read_names v.0) x (new_read (outputs_of v.0) (read_names v.0) x v.1.1);
            }

    gives_wanted : is_among (wanted_names m ws) x ≡ true → is_among (window_outputs m ws w) x ≡ true
    gives_wanted wanted = among_in (window_outputs m ws w) x (in_filtered (is_among (wanted_names m ws)) (outputs_of w) x (in_among (outputs_of w) x output) wanted)

    elsewhere_wanted : (is_among (observed_names m) x ≡ true) ⊎ IsReadElsewhere ws k x → is_among (window_outputs m ws w) x ≡ true
    elsewhere_wanted (inl seen) = gives_wanted (among_in (wanted_names m ws) x (in_left (observed_names m) (flat_map window_inputs ws) x (in_among (observed_names m) x seen)))
    elsewhere_wanted (inr r) =
        gives_wanted (wanted_input r.window x (in_at ws r.place r.window r.there) (read_new (outputs_of r.window) (read_names r.window) x (in_among (read_names r.window) x r.reads)
        (not_among (outputs_of r.window) x (λ i. r.other (one_window ws r.place k r.window w x order.once r.there at i (in_among (outputs_of w) x output))))))

  pub windows_fit : FitTogether m ws
  windows_fit = record { earlier = given_earlier; outputs = λ k w x at output. (wanted_elsewhere k w x at output, elsewhere_wanted k w x at output); given = given_once }
