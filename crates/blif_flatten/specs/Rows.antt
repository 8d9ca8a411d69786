-- Texts that are worked out by hand.
use Rattle.std.specs.Prelude.{◌+◌, ℕ, true, List, [], ◌∷◌, codes, Option, Some, None}
use Rattle.rm_base.specs.Words.{Word}
use Rattle.rm_model.specs.declared.parts.Literal.TheVariants.{Zero, One}
use Rattle.rm_model.specs.declared.parts.Model.{Model}
use Rattle.blif_format.specs.Rows.{lines_text}
use Rattle.blif_flatten.specs.declared.modules.Module.{Module}
use Rattle.blif_flatten.specs.Sections.{sections_of}
use Rattle.blif_flatten.specs.Instances.{modules_of, instance_count}
use Rattle.blif_flatten.specs.Flat.{flat_model}
use Rattle.blif_flatten.specs.FirstFault.{lead_in, tree_of}

abbrev pub inverter_lines : List Word
inverter_lines = codes ".model inv" ∷ codes ".inputs i" ∷ codes ".outputs o" ∷ codes ".names i o" ∷ codes "0 1" ∷ codes ".end" ∷ []

-- a top that calls an inverter, with this fourth line
abbrev pub calling_text : Word → List ℕ
calling_text call = lines_text (codes ".model top" ∷ codes ".inputs a b" ∷ codes ".outputs z" ∷ call ∷ codes ".names n b z" ∷ codes "11 1" ∷ codes ".end" ∷ inverter_lines)

abbrev pub flat_by : Word → List Module → Option (Model × ℕ)
flat_by lead [] = None
flat_by lead (top ∷ ms) = Some (flat_model lead top.model (tree_of (top ∷ ms) top), 1 + instance_count (tree_of (top ∷ ms) top))

-- the flat model of a text, and its number of instances
abbrev pub flat_said : List ℕ → Option (Model × ℕ)
flat_said text = flat_by (lead_in (sections_of text)) (modules_of (sections_of text))

abbrev pub inverted_model : Model
inverted_model = record {
  name = codes "top";
  inputs = codes "a" ∷ codes "b" ∷ [];
  clocks = [];
  outputs = codes "z" ∷ [];
  latches = [];
  covers = record { inputs = codes "n" ∷ codes "b" ∷ []; output = codes "z"; on = true; rows = (One ∷ One ∷ []) ∷ [] }
      ∷ record { inputs = codes "a" ∷ []; output = codes "s0_1_i"; on = true; rows = (One ∷ []) ∷ [] }
      ∷ record { inputs = codes "s0_1_i" ∷ []; output = codes "s0_1_o"; on = true; rows = (Zero ∷ []) ∷ [] }
      ∷ record { inputs = codes "s0_1_o" ∷ []; output = codes "n"; on = true; rows = (One ∷ []) ∷ [] } ∷ [];
}
