-- The models of windows by a table of the wanted names.
use Rattle.std.specs.Prelude.{ℕ, suc, List, [], ◌∷◌, filter}
use Rattle.rm_model.specs.Value.{is_among, outputs_of}
use Rattle.rm_model.specs.declared.parts.Cover.{Cover}
use Rattle.rm_model.specs.declared.parts.Model.{Model}
use Rattle.rm_base.specs.Words.{Word}
use Rattle.window_cut.specs.Windows.{window_inputs, window_name}

-- the model of a window where these names are wanted
abbrev pub model_with : List Word → ℕ → List Cover → Model
model_with wanted n w = record { name = window_name n; inputs = window_inputs w; clocks = []; outputs = filter (is_among wanted) (outputs_of w); latches = []; covers = w }

abbrev pub models_with : List Word → ℕ → List (List Cover) → List Model
models_with wanted n [] = []
models_with wanted n (w ∷ ws) = model_with wanted n w ∷ models_with wanted (suc n) ws
