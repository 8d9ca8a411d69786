-- The models of windows together.
use Rattle.std.proofs.Common.{◌≡◌, ℕ, suc, true, false, List, [], ◌∷◌, ◌++◌, flat_map, refl, sym, ap, ◌∙◌, subst, inl, inr}
use Rattle.std.specs.List.{list_all}
use Rattle.rm_base.proofs.Public.{in_append, in_at, in_filtered, in_left, in_right}
use Rattle.rm_base.specs.Members.{In}
use Rattle.rm_base.specs.Words.{Word}
use Rattle.rm_model.specs.Value.{is_among, observed_names, outputs_of, source_names}
use Rattle.rm_model.specs.WellFormed.{IsWellFormed}
use Rattle.rm_model.specs.declared.parts.Cover.{Cover}
use Rattle.rm_model.specs.declared.parts.Model.{Model}
use Rattle.cover_decompose.proofs.Public.{among_in, in_among}
use Rattle.window_cut.proofs.Fits.{given_once, in_flat, new_read, new_unknown, wanted_input, windows_reading}
use Rattle.window_cut.proofs.Ordered.{output_cover, seen_driven}
use Rattle.window_cut.specs.Inner.Reading.{Reading}
use Rattle.window_cut.proofs.Reading.{reading_parts, reading_within}
use Rattle.window_cut.proofs.Standalone.{all_pass}
use Rattle.window_cut.specs.Cut.{joined}
use Rattle.window_cut.specs.Laws.{AreInOrder, ReadKnown, model_covers, model_outputs}
use Rattle.window_cut.specs.Windows.{models_from, read_names, wanted_names, window_inputs, window_outputs}

pub covers_joined : (m : Model) (all : List (List Cover)) (n : ℕ) (ws : List (List Cover)) → model_covers (models_from m all n ws) ≡ joined ws
covers_joined m all n [] = refl
covers_joined m all n (w ∷ ws) = ap (λ (l : List Cover). w ++ l) (covers_joined m all (suc n) ws)

outputs_given : (m : Model) (all : List (List Cover)) (n : ℕ) (ws : List (List Cover)) → model_outputs (models_from m all n ws) ≡ flat_map (window_outputs m all) ws
outputs_given m all n [] = refl
outputs_given m all n (w ∷ ws) = ap (λ (l : List Word). window_outputs m all w ++ l) (outputs_given m all (suc n) ws)

module _ (m : Model) (all : List (List Cover)) (order : AreInOrder m (joined all)) where
  -- what is there and wanted is known
  abbrev Knows : List Word → List Word → Type 0
  Knows there known = (x : Word) → In there x → is_among (wanted_names m all) x ≡ true → In known x

  knows_more : (there known : List Word) (w : List Cover) → Knows there known → Knows (there ++ outputs_of w) (known ++ window_outputs m all w)
  knows_more there known w k x i wanted = elim (in_append there (outputs_of w) x i) [
    | inl a ↦ in_left known (window_outputs m all w) x (k x a wanted)
    | inr b ↦ in_right known (window_outputs m all w) x (in_filtered (is_among (wanted_names m all)) (outputs_of w) x b wanted)
  ]

  there_outside : (there : List Word) (w : List Cover) (x : Word) → Reading there w → In (window_inputs w) x → In there x
  there_outside there w x r i = elim (in_append there (outputs_of w) x (reading_within there w x r (new_read (outputs_of w) (read_names w) x i))) [
    | inl a ↦ a
    | inr b ↦ let bad : true ≡ false = sym (among_in (outputs_of w) x b) ∙ new_unknown (outputs_of w) (read_names w) x i in absurd cc
  ]

  known_from : (n : ℕ) (ws : List (List Cover)) (there known : List Word) → Reading there (joined ws) → Knows there known → ((w : List Cover) → In ws w → In all w) → ReadKnown known (models_from m all n ws)
  known_from n [] there known r k h = tt
  known_from n (w ∷ ws) there known r k h =
      let parts = reading_parts there w (joined ws) r in (
        all_pass (is_among known) (window_inputs w) (λ x i. among_in known x (k x (there_outside there w x parts.0 i) (wanted_input m all order w x (h w (inl refl)) i))),
        known_from (suc n) ws (there ++ outputs_of w) (known ++ window_outputs m all w) parts.1 (knows_more there known w k) (λ v i. h v (inr i)),
      )

  pub models_read : ReadKnown (source_names m) (models_from m all 1 all)
  models_read = known_from 1 all (source_names m) (source_names m) (windows_reading m all order) (λ x i wanted. i) (λ w i. i)

  pub all_observed : IsWellFormed m → list_all (is_among (source_names m ++ model_outputs (models_from m all 1 all))) (observed_names m) ≡ true
  all_observed formed = all_pass (is_among (source_names m ++ model_outputs (models_from m all 1 all))) (observed_names m) (λ x i.
      subst (λ (l : List Word). is_among (source_names m ++ l) x ≡ true) (sym (outputs_given m all 1 all)) (among_in (source_names m ++ flat_map (window_outputs m all) all) x
      (elim (seen_driven m formed x i) [
        | inl s ↦ in_left (source_names m) (flat_map (window_outputs m all) all) x s
        | inr o ↦
            let g = given_once m all order x (among_in (observed_names m) x i) (output_cover m.covers x o) in
            in_right (source_names m) (flat_map (window_outputs m all) all) x (in_flat (window_outputs m all) all g.window x (in_at all g.place g.window g.there) (in_among (window_outputs m all g.window) x g.gives))
      ])))
