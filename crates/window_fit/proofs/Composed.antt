-- Models that compute what another one does, one after the other.
use Rattle.std.proofs.Common.{◌≡◌, ℕ, suc, Bool, List, [], ◌∷◌, ◌++◌, map, filter, not, length, refl, sym, ◌∙◌, ap}
use Rattle.rm_model.specs.Value.{Equivalent, IsConsistent, IsRanked, is_among, observed_names, source_names}
use Rattle.rm_model.specs.WellFormed.{IsWellFormed}
use Rattle.rm_model.specs.declared.parts.Latch.{Latch}
use Rattle.rm_model.specs.declared.parts.Model.{Model}
use Rattle.rm_base.specs.Words.{Word}
use Rattle.sewing.specs.Laws.{IsReplacement}

-- an assignment of a model's sources has a consistent valuation
abbrev pub ValuationsExist : Type 0
ValuationsExist =
    (m : Model) (values : List Bool) → IsWellFormed m → IsRanked m → length values ≡ length (source_names m)
    → (v : Word → Bool) × (IsConsistent m v × (map v (source_names m) ≡ values))

abbrev sources_of : List Word → List Word → List Latch → List Word
sources_of inputs clocks latches = (inputs ++ filter (λ x. not (is_among inputs x)) clocks) ++ map (λ (l : Latch). l.output) latches

-- models with the same inputs, clocks and latches have the same sources
same_sources : (m n : Model) → Equivalent m n → source_names m ≡ source_names n
same_sources m n e =
    ap (λ (xs : List Word). sources_of xs m.clocks m.latches) e.inputs
    ∙ (ap (λ (xs : List Word). sources_of n.inputs xs m.latches) e.clocks ∙ ap (λ (ls : List Latch). sources_of n.inputs n.clocks ls) e.latches)

map_count : {A B : Type 0} (f : A → B) (xs : List A) → length (map f xs) ≡ length xs
map_count f [] = refl
map_count f (x ∷ xs) = ap suc (map_count f xs)

-- the second model gives what the first one does, and the third what the second one does
pub equivalent_then : (exist : ValuationsExist) (m n o : Model) → IsWellFormed n → Equivalent m n → Equivalent n o → Equivalent m o
equivalent_then exist m n o formed e f = record {
  name = e.name ∙ f.name;
  inputs = e.inputs ∙ f.inputs;
  outputs = e.outputs ∙ f.outputs;
  clocks = e.clocks ∙ f.clocks;
  latches = e.latches ∙ f.latches;
  ranked = e.ranked;
  other_ranked = f.other_ranked;
  agree = λ v w first last sources.
      let values : List Bool = map v (source_names m) in
      let count : length values ≡ length (source_names n) = map_count v (source_names m) ∙ ap (λ (xs : List Word). length xs) (same_sources m n e) in
      let mid : (u : Word → Bool) × (IsConsistent n u × (map u (source_names n) ≡ values)) = exist n values formed e.other_ranked count in
      e.agree v mid.0 first mid.1.0 (sym mid.1.1) ∙ f.agree mid.0 w mid.1.0 last (mid.1.1 ∙ sources);
}

pub replaced_then : (exist : ValuationsExist) (m n o : Model) → IsWellFormed n → Equivalent m n → IsReplacement n o → IsReplacement m o
replaced_then exist m n o formed e r = record { formed = r.formed; equivalent = equivalent_then exist m n o formed e r.equivalent }
