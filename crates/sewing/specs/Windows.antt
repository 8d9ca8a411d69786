-- A model cut into windows: models of some of its covers each, in an order in which each window reads only sources and outputs of windows before it.
use Rattle.std.specs.Prelude.{◌≡◌, true, List, [], ◌∷◌, ◌++◌, All, Contains}
use Rattle.std.specs.List.{flat_map, list_all}
use Rattle.rm_model.specs.Value.{is_among, source_names, observed_names, outputs_of}
use Rattle.rm_model.specs.WellFormed.{is_distinct, IsWellFormed}
use Rattle.rm_model.specs.declared.parts.Cover.{Cover}
use Rattle.rm_model.specs.declared.parts.Model.{Model}
use Rattle.rm_base.specs.Words.{Word}

-- the covers of all windows, in order
abbrev pub window_covers : List Model → List Cover
window_covers ws = flat_map (λ (w : Model). w.covers) ws

-- the outputs of all windows, in order
abbrev pub window_outputs : List Model → List Word
window_outputs ws = flat_map (λ (w : Model). w.outputs) ws

-- the names that stay, however each window is replaced: the sources of the model and the outputs of its windows
abbrev pub kept_names : Model → List Model → List Word
kept_names m ws = source_names m ++ window_outputs ws

-- a model without clocks and latches that reads known names alone, and whose outputs are outputs of its covers
pub record IsWindow (known : List Word) (w : Model) : Type 0 where
  pub formed : IsWellFormed w
  pub no_clocks : w.clocks ≡ []
  pub no_latches : w.latches ≡ []
  pub reads : list_all (is_among known) w.inputs ≡ true
  pub gives : list_all (is_among (outputs_of w.covers)) w.outputs ≡ true

-- each in turn, where the outputs of the windows before it are known too
abbrev pub AreWindows : List Word → List Model → Type 0
AreWindows known [] = Unit {0}
AreWindows known (w ∷ ws) = IsWindow known w × AreWindows (known ++ w.outputs) ws

-- the windows are made of covers of the model, none of them twice, and every observed name that is no source is an output of a window
pub record IsWindowed (m : Model) (windows : List Model) : Type 0 where
  pub in_order : AreWindows (source_names m) windows
  pub taken : All (λ (c : Cover). Contains m.covers c) (window_covers windows)
  pub once : is_distinct (outputs_of (window_covers windows)) ≡ true
  pub observed : list_all (is_among (kept_names m windows)) (observed_names m) ≡ true
