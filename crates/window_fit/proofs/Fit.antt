-- From what holds of cuts to windows that can be sewn.
use Rattle.std.proofs.Common.{◌≡◌, ℕ, suc, true, List, [], ◌∷◌, ◌++◌, length, inl, inr, refl, sym, ap, subst}
use Rattle.std.specs.Prelude.{All, Contains}
use Rattle.std.specs.List.{list_all}
use Rattle.rm_model.specs.Value.{is_among, observed_names, outputs_of, source_names}
use Rattle.rm_model.specs.WellFormed.{is_distinct}
use Rattle.rm_model.specs.declared.parts.Cover.{Cover}
use Rattle.rm_model.specs.declared.parts.Model.{Model}
use Rattle.rm_base.specs.Members.{In}
use Rattle.rm_base.specs.Words.{Word}
use Rattle.rm_base.proofs.Public.{in_contains}
use Rattle.sewing.specs.Windows.{AreWindows, IsWindowed}
use Rattle.sewing.proofs.Public.{all-in, in-all}
use Rattle.window_cut.specs.Order.{ordered_covers}
use Rattle.window_cut.specs.Windows.{models_from}
use Rattle.window_cut.specs.Laws.{AreInOrder, IsStandalone, ReadKnown, model_covers, model_outputs}

-- as many models as windows
pub models-count : (m : Model) (ws : List (List Cover)) (n : ℕ) (rest : List (List Cover)) → length (models_from m ws n rest) ≡ length rest
models-count m ws n [] = refl
models-count m ws n (w ∷ rest) = ap suc (models-count m ws (suc n) rest)

in-order : (known : List Word) (ws : List Model) → ((w : Model) → In ws w → IsStandalone w) → ReadKnown known ws → AreWindows known ws
in-order known [] standalone reads = tt
in-order known (w ∷ ws) standalone reads =
    let s : IsStandalone w = standalone w (inl refl) in (
      record { formed = s.formed; no_clocks = s.no_clocks; no_latches = s.no_latches; reads = reads.0; gives = s.gives },
      in-order (known ++ w.outputs) ws (λ x h. standalone x (inr h)) reads.1,
    )

pub windowed : (m : Model) (ws : List Model) → All IsStandalone ws → model_covers ws ≡ ordered_covers m → AreInOrder m (ordered_covers m) → ReadKnown (source_names m) ws
    → list_all (is_among (source_names m ++ model_outputs ws)) (observed_names m) ≡ true → IsWindowed m ws
windowed m ws standalone same order reads observed = record {
  in_order = in-order (source_names m) ws (λ w h. all-in IsStandalone ws w standalone h) reads;
  taken = in-all (λ (c : Cover). Contains m.covers c) (model_covers ws) (λ c h. ((order.needed c).0 (in_contains (ordered_covers m) c (subst (λ (l : List Cover). In l c) same h))).0);
  once = subst (λ (l : List Cover). is_distinct (outputs_of l) ≡ true) (sym same) order.once;
  observed = observed;
}
