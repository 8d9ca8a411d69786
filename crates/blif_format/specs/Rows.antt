-- Texts that are worked out by hand.
use Rattle.std.specs.Prelude.{◌++◌, ℕ, true, false, List, [], ◌∷◌, codes, Option, Some, None}
use Rattle.rm_model.specs.declared.parts.Literal.TheVariants.{Zero, One}
use Rattle.rm_model.specs.declared.parts.LatchKind.TheVariants.{Re}
use Rattle.rm_model.specs.declared.parts.Model.{Model}
use Rattle.blif_format.specs.declared.refusal.FaultKind.{FaultKind}
use Rattle.blif_format.specs.declared.refusal.ReadRefusal.{ReadRefusal}
use Rattle.blif_format.specs.declared.refusal.ReadRefusal.TheVariants.{Fault}
use Rattle.rm_base.specs.Words.{Word}

-- lines that are ended by LF
abbrev pub lines_text : List Word → List ℕ
lines_text [] = []
lines_text (w ∷ ws) = w ++ 10 ∷ lines_text ws

abbrev pub at : FaultKind → ℕ → ℕ → Option ReadRefusal
at kind line column = Some (Fault kind (record { line = line; column = column }))

-- a cover whose rows end in 0
abbrev pub nor_model : Model
nor_model = record {
  name = codes "r5";
  inputs = codes "a" ∷ codes "b" ∷ [];
  clocks = [];
  outputs = codes "z" ∷ [];
  latches = [];
  covers = record { inputs = codes "a" ∷ codes "b" ∷ []; output = codes "z"; on = false; rows = (Zero ∷ Zero ∷ []) ∷ [] } ∷ [];
}

abbrev pub nor_text : List ℕ
nor_text = lines_text (codes ".model r5" ∷ codes ".inputs a b" ∷ codes ".outputs z" ∷ codes ".names a b z" ∷ codes "00 0" ∷ codes ".end" ∷ [])

-- latches with and without their fields, and a clock that is an input
abbrev pub latch_model : Model
latch_model = record {
  name = codes "r8";
  inputs = codes "d" ∷ codes "e" ∷ codes "clk" ∷ [];
  clocks = [];
  outputs = codes "q" ∷ [];
  latches = record { input = codes "nd"; output = codes "q"; timing = Some (record { kind = Re; control = Some (codes "g") }); init = Some 2 }
      ∷ record { input = codes "q"; output = codes "s"; timing = None; init = None } ∷ [];
  covers = record { inputs = codes "clk" ∷ codes "e" ∷ []; output = codes "g"; on = true; rows = (One ∷ One ∷ []) ∷ [] }
      ∷ record { inputs = codes "d" ∷ codes "s" ∷ []; output = codes "nd"; on = true; rows = (One ∷ One ∷ []) ∷ [] } ∷ [];
}

abbrev pub latch_text : List ℕ
latch_text = lines_text (codes ".model r8" ∷ codes ".inputs d e clk" ∷ codes ".outputs q" ∷ codes ".latch nd q re g 2" ∷ codes ".latch q s"
    ∷ codes ".names clk e g" ∷ codes "11 1" ∷ codes ".names d s nd" ∷ codes "11 1" ∷ codes ".end" ∷ [])

-- a text with one line in place of the fifth
abbrev pub with_row_line : Word → List ℕ
with_row_line row = lines_text (codes ".model r1" ∷ codes ".inputs a b" ∷ codes ".outputs z" ∷ codes ".names a b z" ∷ row ∷ codes ".end" ∷ [])

-- a text whose one cover reads its own output
abbrev pub cycle_text : List Word → List ℕ
cycle_text inputs = lines_text (codes ".model r12" ∷ (inputs ++ codes ".outputs z" ∷ codes ".names z u z" ∷ codes "11 1" ∷ codes ".end" ∷ []))

-- the third line of a model
abbrev pub third_line : Word → List ℕ
third_line line = lines_text (codes ".model r24" ∷ codes ".inputs a c" ∷ line ∷ [])

-- an input that is a clock too, with these further lines
abbrev pub clock_text : Word → List Word → List ℕ
clock_text outputs more = lines_text (codes ".model r23" ∷ codes ".inputs a" ∷ codes ".clock a" ∷ outputs ∷ codes ".names a z" ∷ codes "1 1" ∷ more)

-- lines that end in CR LF, joined and commented
abbrev pub found_text : List ℕ
found_text =
    (codes "# made by hand \\" ++ 13 ∷ 10 ∷ []) ++ (codes ".model r9" ++ 13 ∷ 10 ∷ []) ++ (codes ".inputs a \\  " ++ 13 ∷ 10 ∷ []) ++ (codes "b" ++ 13 ∷ 10 ∷ [])
    ++ (codes ".outputs z" ++ 13 ∷ 10 ∷ []) ++ (codes ".names a b z # and \\" ++ 13 ∷ 10 ∷ []) ++ (codes "11 1" ++ 13 ∷ 10 ∷ [])

abbrev pub found_lines : List (List Word)
found_lines =
    (codes ".model" ∷ codes "r9" ∷ []) ∷ (codes ".inputs" ∷ codes "a" ∷ codes "b" ∷ []) ∷ (codes ".outputs" ∷ codes "z" ∷ [])
    ∷ (codes ".names" ∷ codes "a" ∷ codes "b" ∷ codes "z" ∷ []) ∷ (codes "11" ∷ codes "1" ∷ []) ∷ []
