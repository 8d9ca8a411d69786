-- Models of nets that are worked out by hand.
use Rattle.std.specs.Prelude.{ℕ, Bool, true, false, Option, Some, None, List, [], ◌∷◌, codes, length, replicate}
use Rattle.std.specs.Option.{option_map}
use Rattle.rm_base.specs.declared.numbers.NodeId.{NodeId}
use Rattle.gate_net.specs.declared.Kind.TheVariants.{Or}
use Rattle.gate_net.specs.Net.{Net}
use Rattle.wire_edit.specs.Order.{next_step}
use Rattle.rm_model.specs.declared.parts.Literal.TheVariants.{Zero, One, Any}
use Rattle.rm_model.specs.declared.parts.Cover.{Cover}
use Rattle.rm_model.specs.declared.parts.Model.{Model}
use Rattle.cover_decompose.specs.Rows.{r2, model_with}
use Rattle.graph_to_model.specs.NetModel.{cover_with, gate_cover_of}
use Rattle.wire_edit.specs.Steps.{gate_of_step}

-- the models written for the decompositions of three models
abbrev pub r2_out : List Cover
r2_out =
    cover_with (codes "x" ∷ codes "y" ∷ []) (codes "n0_4") true ((One ∷ One ∷ []) ∷ [])
    ∷ cover_with (codes "x" ∷ codes "n0_4" ∷ []) (codes "z") true ((One ∷ Any ∷ []) ∷ (Any ∷ One ∷ []) ∷ []) ∷ []

abbrev pub r5_out : List Cover
r5_out =
    cover_with (codes "a" ∷ []) (codes "n0_4") true ((Zero ∷ []) ∷ [])
    ∷ cover_with (codes "b" ∷ []) (codes "n0_5") true ((Zero ∷ []) ∷ [])
    ∷ cover_with (codes "n0_4" ∷ codes "n0_5" ∷ []) (codes "n0_6") true ((One ∷ One ∷ []) ∷ [])
    ∷ cover_with (codes "n0_6" ∷ []) (codes "z") true ((Zero ∷ []) ∷ []) ∷ []

-- an Xor that a Not closes
abbrev pub agree_out : List Cover
agree_out =
    cover_with (codes "a" ∷ codes "b" ∷ []) (codes "n0_4") true ((One ∷ Zero ∷ []) ∷ (Zero ∷ One ∷ []) ∷ [])
    ∷ cover_with (codes "n0_4" ∷ []) (codes "z") true ((Zero ∷ []) ∷ []) ∷ []

-- an output that is a source, and a copy of it
abbrev pub copies : Model
copies = model_with (codes "r7") (codes "a" ∷ []) (codes "a" ∷ codes "z" ∷ []) (cover_with (codes "a" ∷ []) (codes "z") true ((One ∷ []) ∷ []) ∷ [])

-- an output whose name takes the first prefix
abbrev pub taken_prefix : Model
taken_prefix = record r2 { inputs = codes "n0_" ∷ codes "y" ∷ []; covers = cover_with (codes "n0_" ∷ codes "y" ∷ []) (codes "z") true ((One ∷ Any ∷ []) ∷ (One ∷ One ∷ []) ∷ []) ∷ [] }

abbrev pub taken_prefix_out : List Cover
taken_prefix_out =
    cover_with (codes "n0_" ∷ codes "y" ∷ []) (codes "n1_4") true ((One ∷ One ∷ []) ∷ [])
    ∷ cover_with (codes "n0_" ∷ codes "n1_4" ∷ []) (codes "z") true ((One ∷ Any ∷ []) ∷ (Any ∷ One ∷ []) ∷ []) ∷ []

-- a cover whose one row ends in 0, without inputs: its decomposition is a Not of One
abbrev pub zero_row : Model
zero_row = model_with (codes "r") [] (codes "z" ∷ []) (record { inputs = []; output = codes "z"; on = false; rows = [] ∷ [] } ∷ [])

-- the gate at which the decomposition of it isn't tidy
abbrev pub gate_two : NodeId
gate_two = record { 0 = 2 }

abbrev pub gate_of_next : Net → Option NodeId
gate_of_next net = option_map gate_of_step (next_step net)

-- a cover of an Or of so many names
abbrev pub or_cover : ℕ → Option Cover
or_cover n = gate_cover_of Or (replicate n (codes "a")) (codes "z")

abbrev pub rows_and_ending : Option Cover → Option (ℕ × Bool)
rows_and_ending None = None
rows_and_ending (Some c) = Some (length c.rows, c.on)

-- how many rows, and their ending
abbrev pub many_ones : Option (ℕ × Bool)
many_ones = Some (64, true)

abbrev pub one_zero : Option (ℕ × Bool)
one_zero = Some (1, false)
