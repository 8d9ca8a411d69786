-- Signals by number: the place of a name among the names that a model drives, which are its sources and then the outputs of its covers.
use Rattle.std.specs.Prelude.{◌≡◌, ℕ, List, map, Some}
use Rattle.rm_model.specs.Numbers.{place_of}
use Rattle.rm_model.specs.Value.{observed_names}
use Rattle.rm_model.specs.WellFormed.{driven_names}
use Rattle.rm_model.specs.declared.parts.Model.{Model}
use Rattle.rm_base.specs.Words.{Word}

-- these are the numbers of the names
abbrev pub AreSignals : List Word → List Word → List ℕ → Type 0
AreSignals names xs ks = map (λ k. Some k) ks ≡ map (place_of names) xs

-- the numbers of each cover's inputs, and of the observed names
pub record AreNumbers (m : Model) (inputs : List (List ℕ)) (observed : List ℕ) : Type 0 where
  pub inputs_are : map (λ ks. map (λ k. Some k) ks) inputs ≡ map (λ c. map (place_of (driven_names m)) c.inputs) m.covers
  pub observed_are : AreSignals (driven_names m) (observed_names m) observed
