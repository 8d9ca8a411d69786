-- The model of a window: its inputs are what it reads from outside, and its outputs are what is read or observed outside.
use Rattle.std.specs.Prelude.{ℕ, suc, List, [], ◌∷◌, ◌++◌, codes, decimal, filter, if◌then◌else◌}
use Rattle.std.specs.List.{flat_map}
use Rattle.rm_model.specs.Value.{is_among, observed_names, outputs_of}
use Rattle.rm_model.specs.declared.parts.Cover.{Cover}
use Rattle.rm_model.specs.declared.parts.Model.{Model}
use Rattle.rm_base.specs.Words.{Word}
use Rattle.window_cut.specs.Cut.{windows}

-- the names that covers read, in order
abbrev pub read_names : List Cover → List Word
read_names cs = flat_map (λ (c : Cover). c.inputs) cs

-- the names that aren't among the known ones, each at its first appearance
abbrev pub new_names : List Word → List Word → List Word
new_names known [] = []
new_names known (x ∷ xs) = if is_among known x then new_names known xs else x ∷ new_names (known ++ x ∷ []) xs

-- the names that a window reads but doesn't drive, in the order of their first appearance
abbrev pub window_inputs : List Cover → List Word
window_inputs w = new_names (outputs_of w) (read_names w)

-- the names that are needed outside the windows that drive them: the observed ones, and the inputs of windows
abbrev pub wanted_names : Model → List (List Cover) → List Word
wanted_names m ws = observed_names m ++ flat_map window_inputs ws

-- the outputs of a window's covers that are wanted, in order
abbrev pub window_outputs : Model → List (List Cover) → List Cover → List Word
window_outputs m ws w = filter (is_among (wanted_names m ws)) (outputs_of w)

-- the name of a window by its number
abbrev pub window_name : ℕ → Word
window_name n = codes "w" ++ decimal n

-- the model of the n-th window
abbrev pub window_model : Model → List (List Cover) → ℕ → List Cover → Model
window_model m ws n w = record { name = window_name n; inputs = window_inputs w; clocks = []; outputs = window_outputs m ws w; latches = []; covers = w }

-- the models of windows, the first one with the number n
abbrev pub models_from : Model → List (List Cover) → ℕ → List (List Cover) → List Model
models_from m ws n [] = []
models_from m ws n (w ∷ rest) = window_model m ws n w ∷ models_from m ws (suc n) rest

-- the models of all windows, numbered from 1
abbrev pub models_of : Model → List (List Cover) → List Model
models_of m ws = models_from m ws 1 ws

abbrev pub window_models : ℕ → ℕ → Model → List Model
window_models width shift m = models_of m (windows width shift m)
