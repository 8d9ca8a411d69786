-- The covers in post-order are the needed ones, each once, and each reads what comes before it.
use Rattle.std.proofs.Common.{◌≡◌, ℕ, true, false, not, List, [], ◌∷◌, ◌++◌, map, take, filter_map, refl, sym, ap, ◌∙◌, subst, ◌⊎◌, inl, inr, option_to_list}
use Rattle.std.specs.Prelude.{Option, None, Some, slice_get}
use Rattle.std.specs.List.{cons_option, list_any}
use Rattle.std.proofs.lemmas.Bool.{and_parts, false_from_ne_true}
use Rattle.rm_base.proofs.Public.{all_pass_in, any_in, in_append, in_at, in_contained, in_contains, in_left, in_map, in_mapped, in_right, place_of_member, some_same}
use Rattle.rm_base.specs.Members.{In}
use Rattle.rm_base.specs.Words.{Word}
use Rattle.rm_model.proofs.Public.{distinct-right, drives-own, is_word-same}
use Rattle.rm_model.specs.Words.{is_word}
use Rattle.rm_model.specs.Ranks.{cover_of}
use Rattle.rm_model.specs.Value.{control_of, is_among, observed_names, outputs_of, source_names}
use Rattle.rm_model.specs.WellFormed.{driven_names, is_distinct, used_names, IsWellFormed}
use Rattle.rm_model.specs.declared.parts.Cover.{Cover}
use Rattle.rm_model.specs.declared.parts.Latch.{Latch}
use Rattle.rm_model.specs.declared.parts.Model.{Model}
use Rattle.cover_decompose.proofs.Public.{among_in, in_among}
use Rattle.cover_decompose.specs.Needed.{IsNeeded, observed, read}
use Rattle.window_cut.proofs.Grown.{Grown, start, grow, post_order-visits}
use Rattle.window_cut.proofs.Lists.{covers_at-push, outputs-joined}
use Rattle.window_cut.specs.Inner.Reading.{Reading}
use Rattle.window_cut.proofs.Reading.{before_reading, reading_append}
use Rattle.window_cut.specs.Inner.Levels.{IsLevelled}
use Rattle.window_cut.specs.Laws.{AreInOrder}
use Rattle.window_cut.specs.Order.{covers_at, ordered_covers, post_order}
use Rattle.window_cut.specs.Windows.{read_names}

-- NAMES

pub not_among : (xs : List Word) (x : Word) → (In xs x → ⊥) → is_among xs x ≡ false
not_among xs x h = false_from_ne_true (is_among xs x) (λ e. h (in_among xs x e))

pub distinct_join : (xs ys : List Word) → is_distinct xs ≡ true → is_distinct ys ≡ true → ((x : Word) → In xs x → In ys x → ⊥) → is_distinct (xs ++ ys) ≡ true
distinct_join [] ys e f h = f
distinct_join (x ∷ xs) ys e f h =
    let parts = and_parts (not (is_among xs x)) (is_distinct xs) e in
    let new : is_among (xs ++ ys) x ≡ false = not_among (xs ++ ys) x (λ i. elim (in_append xs ys x i) [ inl a ↦ once parts.0 (among_in xs x a) | inr b ↦ h x (inl refl) b ]) in
    rw (new, distinct_join xs ys parts.1 f (λ y i j. h y (inr i) j)) refl
  where
    once : not (is_among xs x) ≡ true → is_among xs x ≡ true → ⊥
    once n y = let bad : false ≡ true = sym (ap not y) ∙ n in cc

pub covered : (cs : List Cover) (x : Word) → is_distinct (outputs_of cs) ≡ true → In (outputs_of cs) x → (k : ℕ) × ((c : Cover) × ((slice_get cs k ≡ Some c) × (c.output ≡ x)))
covered cs x once i =
    let r = in_map (λ (c : Cover). c.output) cs x i in
    let p = place_of_member cs r.0 r.1.0 in
    (p.0, (r.0, (p.1, r.1.1)))

pub in_read : (cs : List Cover) (c : Cover) (x : Word) → In cs c → In c.inputs x → In (read_names cs) x
in_read [] c x h i = absurd h
in_read (d ∷ cs) c x (inl s) i = in_left d.inputs (read_names cs) x (subst (λ (b : Cover). In b.inputs x) (sym s) i)
in_read (d ∷ cs) c x (inr h) i = in_right d.inputs (read_names cs) x (in_read cs c x h i)

pub reader_of : (cs : List Cover) (x : Word) → In (read_names cs) x → (c : Cover) × (In cs c × In c.inputs x)
reader_of [] x i = absurd i
reader_of (d ∷ cs) x i = elim (in_append d.inputs (read_names cs) x i) [ inl a ↦ (d, (inl refl, a)) | inr b ↦ let r = reader_of cs x b in (r.0, (inr r.1.0, r.1.1)) ]

-- what covers of a model read is used
pub read_used : (m : Model) (x : Word) → In (read_names m.covers) x → In (used_names m) x
read_used m x i =
    let inputs : List Word = map (λ (l : Latch). l.input) m.latches in
    let controls : List Word = filter_map control_of m.latches in
    in_left ((m.outputs ++ read_names m.covers) ++ inputs) controls x (in_left (m.outputs ++ read_names m.covers) inputs x (in_right m.outputs (read_names m.covers) x i))

pub used_driven : (m : Model) → IsWellFormed m → (x : Word) → In (used_names m) x → In (source_names m) x ⊎ In (outputs_of m.covers) x
used_driven m formed x u = in_append (source_names m) (outputs_of m.covers) x (in_among (driven_names m) x (all_pass_in (is_among (driven_names m)) (used_names m) x formed.all_driven u))

pub seen_driven : (m : Model) → IsWellFormed m → (x : Word) → In (observed_names m) x → In (source_names m) x ⊎ In (outputs_of m.covers) x
seen_driven m formed x i = used_driven m formed x (elim (in_append (m.outputs ++ map (λ (l : Latch). l.input) m.latches) (filter_map control_of m.latches) x i) [
  | inl p ↦ in_left ((m.outputs ++ read_names m.covers) ++ map (λ (l : Latch). l.input) m.latches) (filter_map control_of m.latches) x
      (elim (in_append m.outputs (map (λ (l : Latch). l.input) m.latches) x p) [
        | inl o ↦ in_left (m.outputs ++ read_names m.covers) (map (λ (l : Latch). l.input) m.latches) x (in_left m.outputs (read_names m.covers) x o)
        | inr l ↦ in_right (m.outputs ++ read_names m.covers) (map (λ (l : Latch). l.input) m.latches) x l
      ])
  | inr c ↦ in_right ((m.outputs ++ read_names m.covers) ++ map (λ (l : Latch). l.input) m.latches) (filter_map control_of m.latches) x c
])

pub output_cover : (cs : List Cover) (x : Word) → In (outputs_of cs) x → list_any (λ (c : Cover). is_word x c.output) cs ≡ true
output_cover cs x i = let r = in_map (λ (c : Cover). c.output) cs x i in any_in (λ (c : Cover). is_word x c.output) cs r.0 r.1.0 (subst (λ (y : Word). is_word x y ≡ true) (sym r.1.1) (is_word-same x))

-- PLACES AND COVERS

done_cover : (cs : List Cover) (done : List ℕ) (j : ℕ) (d : Cover) → In done j → slice_get cs j ≡ Some d → In (covers_at cs done) d
done_cover cs [] j d i e = absurd i
done_cover cs (k ∷ done) j d (inl s) e = let here : slice_get cs k ≡ Some d = ap (slice_get cs) s ∙ e in subst (λ (o : Option Cover). In (cons_option o (covers_at cs done)) d) (sym here) (inl refl)
done_cover cs (k ∷ done) j d (inr i) e = by_cover (slice_get cs k) (done_cover cs done j d i e)
  where
    by_cover : (o : Option Cover) → In (covers_at cs done) d → In (cons_option o (covers_at cs done)) d
    by_cover None h = h
    by_cover (Some c) h = inr h

cover_done : (cs : List Cover) (done : List ℕ) (d : Cover) → In (covers_at cs done) d → (j : ℕ) × (In done j × (slice_get cs j ≡ Some d))
cover_done cs [] d i = absurd i
cover_done cs (k ∷ done) d i = by_cover (slice_get cs k) refl (cover_done cs done d) i
  where
    by_cover : (o : Option Cover) → slice_get cs k ≡ o → (In (covers_at cs done) d → (j : ℕ) × (In done j × (slice_get cs j ≡ Some d))) → In (cons_option o (covers_at cs done)) d → (j : ℕ) × (((k ≡ j) ⊎ In done j) × (slice_get cs j ≡ Some d))
    by_cover None e next h = let r = next h in (r.0, (inr r.1.0, r.1.1))
    by_cover (Some c) e next (inl s) = (k, (inl refl, e ∙ ap (λ (b : Cover). Some b) s))
    by_cover (Some c) e next (inr h) = let r = next h in (r.0, (inr r.1.0, r.1.1))

module _ (m : Model) (formed : IsWellFormed m) where
  outputs_once : is_distinct (outputs_of m.covers) ≡ true
  outputs_once = distinct-right (source_names m) (outputs_of m.covers) formed.driven_once

  own : (k : ℕ) (c : Cover) → slice_get m.covers k ≡ Some c → cover_of m.covers c.output ≡ Some k
  own k c at = drives-own m.covers k c outputs_once at

  grown_covers : (done all : List ℕ) (k : ℕ) (c : Cover) → all ≡ done ++ k ∷ [] → slice_get m.covers k ≡ Some c → covers_at m.covers all ≡ covers_at m.covers done ++ c ∷ []
  grown_covers done all k c e at = ap (covers_at m.covers) e ∙ (covers_at-push m.covers done k ∙ ap (λ (o : Option Cover). covers_at m.covers done ++ option_to_list o) at)

  needed_place : (all : List ℕ) → Grown m all → (j : ℕ) (d : Cover) → In all j → slice_get m.covers j ≡ Some d → IsNeeded m d.output
  needed_place all (start all2 e) j d i at = absurd (subst (λ (l : List ℕ). In l j) e i)
  needed_place all (grow done all2 k c e g there fresh reads needed) j d i at = elim (in_append done (k ∷ []) j (subst (λ (l : List ℕ). In l j) e i)) [
    | inl a ↦ needed_place done g j d a at
    | inr b ↦ elim b [ inl s ↦ let same : c ≡ d = some_same (sym there ∙ (ap (slice_get m.covers) s ∙ at)) in subst (λ (b : Cover). IsNeeded m b.output) same needed | inr z ↦ absurd z ]
  ]

  -- what a place that is done reads is done
  closed_place : (all : List ℕ) → Grown m all → (j : ℕ) (d : Cover) → In all j → slice_get m.covers j ≡ Some d → (x : Word) (i : ℕ) → In d.inputs x → cover_of m.covers x ≡ Some i → In all i
  closed_place all (start all2 e) j d h at x i r f = absurd (subst (λ (l : List ℕ). In l j) e h)
  closed_place all (grow done all2 k c e g there fresh reads needed) j d h at x i r f =
      subst (λ (l : List ℕ). In l i) (sym e) (in_left done (k ∷ []) i (elim (in_append done (k ∷ []) j (subst (λ (l : List ℕ). In l j) e h)) [
        | inl a ↦ closed_place done g j d a at x i r f
        | inr b ↦ elim b [ inl s ↦ let same : d ≡ c = some_same (sym at ∙ (ap (slice_get m.covers) (sym s) ∙ there)) in reads x i (subst (λ (b : Cover). In b.inputs x) same r) f | inr z ↦ absurd z ]
      ]))

  given_by : (done : List ℕ) (x : Word) → In (outputs_of (covers_at m.covers done)) x → (j : ℕ) × (In done j × (cover_of m.covers x ≡ Some j))
  given_by done x i =
      let r = in_map (λ (c : Cover). c.output) (covers_at m.covers done) x i in
      let p = cover_done m.covers done r.0 r.1.0 in
      (p.0, (p.1.0, ap (cover_of m.covers) (sym r.1.1) ∙ own p.0 r.0 p.1.1))

  once_grown : (all : List ℕ) → Grown m all → is_distinct (outputs_of (covers_at m.covers all)) ≡ true
  once_grown all (start all2 e) = ap (λ (l : List ℕ). is_distinct (outputs_of (covers_at m.covers l))) e
  once_grown all (grow done all2 k c e g there fresh reads needed) =
      let longer : outputs_of (covers_at m.covers all) ≡ outputs_of (covers_at m.covers done) ++ c.output ∷ [] = ap (λ (l : List Cover). outputs_of l) (grown_covers done all k c e there) ∙ outputs-joined (covers_at m.covers done) (c ∷ []) in
      ap is_distinct longer ∙ distinct_join (outputs_of (covers_at m.covers done)) (c.output ∷ []) (once_grown done g) refl
      (λ x i j. elim j [
        | inl s ↦ let r = given_by done x i in let same : k ≡ r.0 = some_same (sym (own k c there) ∙ (ap (cover_of m.covers) s ∙ r.1.1)) in fresh (subst (λ (n : ℕ). In done n) (sym same) r.1.0)
        | inr z ↦ z
      ])

  reading_grown : (all : List ℕ) → Grown m all → Reading (source_names m) (covers_at m.covers all)
  reading_grown all (start all2 e) = subst (λ (l : List ℕ). Reading (source_names m) (covers_at m.covers l)) (sym e) tt
  reading_grown all (grow done all2 k c e g there fresh reads needed) =
      subst (λ (l : List Cover). Reading (source_names m) l) (sym (grown_covers done all k c e there))
      (reading_append (source_names m) (covers_at m.covers done) (c ∷ []) (reading_grown done g) (
        (λ x i. elim (used_driven m formed x (read_used m x (in_read m.covers c x (in_at m.covers k c there) i))) [
          | inl s ↦ in_left (source_names m) (outputs_of (covers_at m.covers done)) x s
          | inr o ↦ in_right (source_names m) (outputs_of (covers_at m.covers done)) x (there_before x i (covered m.covers x outputs_once o))
        ]),
        tt,
      ))
    where
      there_before : (x : Word) → In c.inputs x → ((j : ℕ) × ((d : Cover) × ((slice_get m.covers j ≡ Some d) × (d.output ≡ x)))) → In (outputs_of (covers_at m.covers done)) x
      there_before x i r =
          let driven : cover_of m.covers x ≡ Some r.0 = ap (cover_of m.covers) (sym r.1.1.1) ∙ own r.0 r.1.0 r.1.1.0 in
          subst (λ (y : Word). In (outputs_of (covers_at m.covers done)) y) r.1.1.1 (in_mapped (λ (c : Cover). c.output) (covers_at m.covers done) r.1.0 (done_cover m.covers done r.0 r.1.0 (reads x r.0 i driven) r.1.1.0))

  module _ (level : ℕ → ℕ) (levelled : IsLevelled m level) where
    reached : (x : Word) → IsNeeded m x → (j : ℕ) → cover_of m.covers x ≡ Some j → In (post_order m) j
    reached x (observed o) j e = (post_order-visits m level levelled).has x (in_among (observed_names m) x o) j e
    reached x (read c there needed among) j e =
        let i = in_contained m.covers c there.0 there.1 there.2 in
        let p = place_of_member m.covers c i in
        closed_place (post_order m) (post_order-visits m level levelled).grown p.0 c (reached c.output needed p.0 (own p.0 c p.1)) p.1 x j (in_among c.inputs x among) e

    pub covers_in_order : AreInOrder m (ordered_covers m)
    covers_in_order = record {
      needed = λ c. (
        (λ i. let h = cover_done m.covers (post_order m) c (in_contained (ordered_covers m) c i.0 i.1 i.2) in (in_contains m.covers c (in_at m.covers h.0 c h.1.1), needed_place (post_order m) (post_order-visits m level levelled).grown h.0 c h.1.0 h.1.1)),
        (λ p. let q = place_of_member m.covers c (in_contained m.covers c p.0.0 p.0.1 p.0.2) in in_contains (ordered_covers m) c (done_cover m.covers (post_order m) q.0 c (reached c.output p.1 q.0 (own q.0 c q.1)) q.1)),
      );
      once = once_grown (post_order m) (post_order-visits m level levelled).grown;
      before = λ k c x at r. elim (in_append (source_names m) (outputs_of (take k (ordered_covers m))) x (before_reading (source_names m) (ordered_covers m) k c x (reading_grown (post_order m) (post_order-visits m level levelled).grown) at (in_among c.inputs x r))) [
        | inl s ↦ inl (among_in (source_names m) x s)
        | inr o ↦ inr (among_in (outputs_of (take k (ordered_covers m))) x o)
      ];
    }
