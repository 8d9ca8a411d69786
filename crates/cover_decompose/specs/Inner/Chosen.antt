-- A model whose signals have numbers, and the places of the covers that are taken.
use Rattle.std.specs.Prelude.{◌≡◌, ◌<◌, ◌+◌, ℕ, All, List, [], ◌∷◌, Some, length, slice_get}
use Rattle.rm_model.specs.Value.{observed_names, source_names}
use Rattle.rm_model.specs.WellFormed.{driven_names}
use Rattle.rm_model.specs.declared.parts.Cover.{Cover}
use Rattle.rm_model.specs.declared.parts.Model.{Model}
use Rattle.cover_decompose.specs.Inner.Signals.{signal_of}
use Rattle.cover_decompose.specs.Inner.Tally.{AreEven}
use Rattle.rm_base.specs.Words.{Word}

-- these are the numbers of the names
abbrev pub Signals : List Word → List Word → List ℕ → Type 0
Signals names [] [] = Unit {0}
Signals names [] (k ∷ ks) = ⊥
Signals names (x ∷ xs) [] = ⊥
Signals names (x ∷ xs) (k ∷ ks) = (signal_of names x ≡ Some k) × Signals names xs ks

-- the covers at these places are these
abbrev pub AtPlaces : List Cover → List ℕ → List Cover → Type 0
AtPlaces covers [] [] = Unit {0}
AtPlaces covers [] (c ∷ cs) = ⊥
AtPlaces covers (i ∷ is) [] = ⊥
AtPlaces covers (i ∷ is) (c ∷ cs) = (slice_get covers i ≡ Some c) × AtPlaces covers is cs

-- the numbers of each cover's inputs, and of its output
abbrev pub AreNumbered : List Word → List Cover → List (List ℕ) → ℕ → Type 0
AreNumbered names covers inputs first =
    (i : ℕ) (c : Cover) → slice_get covers i ≡ Some c → (signal_of names c.output ≡ Some (first + i)) × ((ks : List ℕ) × ((slice_get inputs i ≡ Some ks) × Signals names c.inputs ks))

-- the signals of a model have these numbers
pub record IsNumbered (m : Model) (inputs : List (List ℕ)) (observed : List ℕ) : Type 0 where
  pub covers : AreNumbered (driven_names m) m.covers inputs (length (source_names m))
  pub points : Signals (driven_names m) (observed_names m) observed
  pub even : AreEven m.covers inputs
  pub count : length inputs ≡ length m.covers
  pub within : All (λ (ks : List ℕ). All (λ k. k < length (source_names m) + length m.covers) ks) inputs
  pub points_within : All (λ k. k < length (source_names m) + length m.covers) observed
