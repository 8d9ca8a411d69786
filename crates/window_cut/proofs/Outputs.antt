-- Each window gives something: the output of its last cover is needed, and no cover of the window reads it.
use Rattle.std.proofs.Common.{◌≡◌, ◌≢◌, Bool, true, false, List, [], ◌∷◌, ◌++◌, flat_map, refl, sym, ap, ◌∙◌, subst, append_assoc, inl, inr}
use Rattle.std.specs.Prelude.{Some, slice_get}
use Rattle.rm_base.proofs.Public.{in_append, in_contained, in_contains, in_filtered, in_left, in_map, in_mapped, in_right, place_of_member}
use Rattle.rm_base.specs.Members.{In}
use Rattle.rm_base.specs.Words.{Word}
use Rattle.rm_model.proofs.Public.{distinct-apart, distinct-left}
use Rattle.rm_model.specs.Value.{is_among, observed_names, outputs_of, source_names}
use Rattle.rm_model.specs.WellFormed.{is_distinct, IsWellFormed}
use Rattle.rm_model.specs.declared.parts.Cover.{Cover}
use Rattle.rm_model.specs.declared.parts.Model.{Model}
use Rattle.cover_decompose.proofs.Public.{among_in, in_among}
use Rattle.cover_decompose.specs.Needed.{IsNeeded, observed, read}
use Rattle.window_cut.proofs.Cuts.{HasLast}
use Rattle.window_cut.proofs.Fits.{in_flat, in_joined, joined_in, one_window, outputs-window, read_new, windows_reading}
use Rattle.window_cut.proofs.Lists.{outputs-joined}
use Rattle.window_cut.proofs.Ordered.{distinct_join, in_read}
use Rattle.window_cut.specs.Inner.Reading.{Reading}
use Rattle.window_cut.proofs.Reading.{reading_parts}
use Rattle.window_cut.specs.Cut.{joined}
use Rattle.window_cut.specs.Laws.{AreInOrder}
use Rattle.window_cut.specs.Windows.{read_names, wanted_names, window_inputs, window_outputs}

-- what covers read, those before the last one give
but_last : (there : List Word) (v : List Cover) (c : Cover) (x : Word) → Reading there (v ++ c ∷ []) → In (read_names (v ++ c ∷ [])) x → In (there ++ outputs_of v) x
but_last there [] c x r i = in_left there [] x (elim (in_append c.inputs [] x i) [ inl a ↦ r.0 x a | inr z ↦ absurd z ])
but_last there (d ∷ v) c x r i = elim (in_append d.inputs (read_names (v ++ c ∷ [])) x i) [
  | inl a ↦ in_left there (d.output ∷ outputs_of v) x (r.0 x a)
  | inr b ↦ subst (λ (l : List Word). In l x) (append_assoc there (d.output ∷ []) (outputs_of v)) (but_last (there ++ d.output ∷ []) v c x r.1 b)
]

-- no cover of a window reads what its last one gives
last_unread : (there : List Word) (ws : List (List Cover)) (w v : List Cover) (c : Cover) → Reading there (joined ws) → is_distinct (there ++ outputs_of (joined ws)) ≡ true → In ws w → w ≡ v ++ c ∷ [] → In (read_names w) c.output → ⊥
last_unread there [] w v c r once h e i = absurd h
last_unread there (u ∷ ws) w v c r once (inl s) e i =
    let is : u ≡ v ++ c ∷ [] = s ∙ e in
    let given : In (there ++ outputs_of v) c.output = but_last there v c c.output (subst (λ (l : List Cover). Reading there l) is (reading_parts there u (joined ws) r).0) (subst (λ (l : List Cover). In (read_names l) c.output) e i) in
    let outs : there ++ outputs_of (joined (u ∷ ws)) ≡ (there ++ outputs_of v) ++ c.output ∷ outputs_of (joined ws) =
    ap (λ (l : List Word). there ++ l) (outputs-window u ws ∙ (ap (λ (l : List Cover). outputs_of l ++ outputs_of (joined ws)) is ∙ (ap (λ (l : List Word). l ++ outputs_of (joined ws)) (outputs-joined v (c ∷ [])) ∙ append_assoc (outputs_of v) (c.output ∷ []) (outputs_of (joined ws)))))
    ∙ sym (append_assoc there (outputs_of v) (c.output ∷ outputs_of (joined ws))) in
    distinct-apart (there ++ outputs_of v) (c.output ∷ outputs_of (joined ws)) c.output (ap is_distinct (sym outs) ∙ once) (among_in (there ++ outputs_of v) c.output given) (among_in (c.output ∷ outputs_of (joined ws)) c.output (inl refl))
last_unread there (u ∷ ws) w v c r once (inr h) e i =
    last_unread (there ++ outputs_of u) ws w v c (reading_parts there u (joined ws) r).1 (ap is_distinct (append_assoc there (outputs_of u) (outputs_of (joined ws)) ∙ ap (λ (l : List Word). there ++ l) (sym (outputs-window u ws))) ∙ once) h e i

module _ (m : Model) (formed : IsWellFormed m) (ws : List (List Cover)) (order : AreInOrder m (joined ws)) where
  all_once : is_distinct (source_names m ++ outputs_of (joined ws)) ≡ true
  all_once = distinct_join (source_names m) (outputs_of (joined ws)) (distinct-left (source_names m) (outputs_of m.covers) formed.driven_once) order.once (λ x s o.
      let c = in_map (λ (c : Cover). c.output) (joined ws) x o in
      let there = ((order.needed c.0).0 (in_contains (joined ws) c.0 c.1.0)).0 in
      let output : In (outputs_of m.covers) x = subst (λ (y : Word). In (outputs_of m.covers) y) c.1.1 (in_mapped (λ (c : Cover). c.output) m.covers c.0 (in_contained m.covers c.0 there.0 there.1 there.2)) in
      distinct-apart (source_names m) (outputs_of m.covers) x formed.driven_once (among_in (source_names m) x s) (among_in (outputs_of m.covers) x output))

  module _ (w v : List Cover) (c : Cover) (h : In ws w) (e : w ≡ v ++ c ∷ []) where
    last_here : In w c
    last_here = subst (λ (l : List Cover). In l c) (sym e) (in_right v (c ∷ []) c (inl refl))

    last_output : In (outputs_of w) c.output
    last_output = in_mapped (λ (c : Cover). c.output) w c last_here

    -- a window that reads it is another one
    read_outside : (u : List Cover) → In ws u → In (read_names u) c.output → In (window_inputs u) c.output
    read_outside u k i = by_output (is_among (outputs_of u) c.output) refl
      where
        by_output : (b : Bool) → is_among (outputs_of u) c.output ≡ b → In (window_inputs u) c.output
        by_output false f = read_new (outputs_of u) (read_names u) c.output i f
        by_output true f =
            let p = place_of_member ws w h in
            let q = place_of_member ws u k in
            let same : q.0 ≡ p.0 = one_window ws q.0 p.0 u w c.output order.once q.1 p.1 (in_among (outputs_of u) c.output f) last_output in
            let one : Some u ≡ Some w = sym q.1 ∙ (ap (slice_get ws) same ∙ p.1) in
            let is : u ≡ w = cc in
            absurd (last_unread (source_names m) ws w v c (windows_reading m ws order) all_once h e (subst (λ (l : List Cover). In (read_names l) c.output) is i))

    last_wanted : (x : Word) → c.output ≡ x → IsNeeded m x → In (wanted_names m ws) c.output
    last_wanted x s (observed seen) = in_left (observed_names m) (flat_map window_inputs ws) c.output (subst (λ (y : Word). In (observed_names m) y) (sym s) (in_among (observed_names m) x seen))
    last_wanted x s (read d there needed among) =
        let i = (order.needed d).1 (there, needed) in
        let u = joined_in ws d (in_contained (joined ws) d i.0 i.1 i.2) in
        let reads : In (read_names u.0) c.output = in_read u.0 d c.output u.1.1 (subst (λ (y : Word). In d.inputs y) (sym s) (in_among d.inputs x among)) in
        in_right (observed_names m) (flat_map window_inputs ws) c.output (in_flat window_inputs ws u.0 c.output u.1.0 (read_outside u.0 u.1.0 reads))

    gives_last : In (window_outputs m ws w) c.output
    gives_last =
        let needed = ((order.needed c).0 (in_contains (joined ws) c (in_joined ws w c h last_here))).1 in
        in_filtered (is_among (wanted_names m ws)) (outputs_of w) c.output last_output (among_in (wanted_names m ws) c.output (last_wanted c.output refl needed))

  pub window_gives : (w : List Cover) → In ws w → HasLast w → window_outputs m ws w ≢ []
  window_gives w h l none = subst (λ (xs : List Word). In xs l.1.0.output) none (gives_last w l.0 l.1.0 h l.1.1)
