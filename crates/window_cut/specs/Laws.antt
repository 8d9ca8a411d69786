-- What holds of windows: their covers are the needed ones in an order in which each reads what comes before it, and their models fit together.
use Rattle.std.specs.Prelude.{◌≡◌, ◌≢◌, ℕ, true, List, [], ◌∷◌, ◌++◌, take, slice_get, Some, Contains, ◌⊎◌, ◌↔◌}
use Rattle.std.specs.List.{flat_map, list_all}
use Rattle.rm_model.specs.Value.{is_among, is_cover_output, observed_names, outputs_of, source_names, IsRanked}
use Rattle.rm_model.specs.WellFormed.{is_distinct, IsWellFormed}
use Rattle.rm_model.specs.declared.parts.Cover.{Cover}
use Rattle.rm_model.specs.declared.parts.Model.{Model}
use Rattle.cover_decompose.specs.Needed.{IsNeeded}
use Rattle.rm_base.specs.Words.{Word}
use Rattle.window_cut.specs.Windows.{read_names, window_inputs, window_outputs}

-- the covers whose outputs are needed, each once, and each reads sources and outputs of covers before it
pub record AreInOrder (m : Model) (cs : List Cover) : Type 0 where
  pub needed : (c : Cover) → Contains cs c ↔ (Contains m.covers c × IsNeeded m c.output)
  pub once : is_distinct (outputs_of cs) ≡ true
  pub before : (k : ℕ) (c : Cover) (x : Word) → slice_get cs k ≡ Some c → is_among c.inputs x ≡ true → (is_among (source_names m) x ≡ true) ⊎ (is_among (outputs_of (take k cs)) x ≡ true)

-- the outputs of the first k windows
abbrev pub outputs_before : Model → List (List Cover) → ℕ → List Word
outputs_before m ws k = flat_map (window_outputs m ws) (take k ws)

-- one window gives the name, and no other
pub record IsGivenOnce (m : Model) (ws : List (List Cover)) (x : Word) : Type 0 where
  pub place : ℕ
  pub window : List Cover
  pub there : slice_get ws place ≡ Some window
  pub gives : is_among (window_outputs m ws window) x ≡ true
  pub only : (k : ℕ) (w : List Cover) → slice_get ws k ≡ Some w → is_among (window_outputs m ws w) x ≡ true → k ≡ place

-- a cover of another window reads the name
pub record IsReadElsewhere (ws : List (List Cover)) (k : ℕ) (x : Word) : Type 0 where
  pub place : ℕ
  pub window : List Cover
  pub there : slice_get ws place ≡ Some window
  pub other : place ≢ k
  pub reads : is_among (read_names window) x ≡ true

-- each window reads sources and outputs of earlier windows; of what its covers give, its outputs are what is observed or read by another window;
-- and each observed name that a cover gives is an output of one window
pub record FitTogether (m : Model) (ws : List (List Cover)) : Type 0 where
  pub earlier : (k : ℕ) (w : List Cover) (x : Word) → slice_get ws k ≡ Some w → is_among (window_inputs w) x ≡ true → (is_among (source_names m) x ≡ true) ⊎ (is_among (outputs_before m ws k) x ≡ true)
  pub outputs : (k : ℕ) (w : List Cover) (x : Word) → slice_get ws k ≡ Some w → is_among (outputs_of w) x ≡ true
      → (is_among (window_outputs m ws w) x ≡ true) ↔ ((is_among (observed_names m) x ≡ true) ⊎ IsReadElsewhere ws k x)
  pub given : (x : Word) → is_among (observed_names m) x ≡ true → is_cover_output m x ≡ true → IsGivenOnce m ws x

-- each model reads names that are known before it, and then its outputs are known too
abbrev pub ReadKnown : List Word → List Model → Type 0
ReadKnown known [] = Unit {0}
ReadKnown known (w ∷ ws) = (list_all (is_among known) w.inputs ≡ true) × ReadKnown (known ++ w.outputs) ws

-- the covers of models, and their outputs, in order
abbrev pub model_covers : List Model → List Cover
model_covers ws = flat_map (λ (w : Model). w.covers) ws

abbrev pub model_outputs : List Model → List Word
model_outputs ws = flat_map (λ (w : Model). w.outputs) ws

-- a model of some covers alone: well formed and acyclic, without clocks and latches, with an output, and each output is one of a cover
pub record IsStandalone (m : Model) : Type 0 where
  pub formed : IsWellFormed m
  pub ranked : IsRanked m
  pub no_clocks : m.clocks ≡ []
  pub no_latches : m.latches ≡ []
  pub some_outputs : m.outputs ≢ []
  pub gives : list_all (is_among (outputs_of m.covers)) m.outputs ≡ true
