-- Nets that are worked out by hand.
use Rattle.std.specs.Prelude.{ℕ, true, List, [], ◌∷◌, Option, Some}
use Rattle.gate_net.specs.declared.Kind.{Kind}
use Rattle.gate_net.specs.declared.Kind.TheVariants.{Source, Zero, One, And, Or, Not, Xor}
use Rattle.gate_net.specs.Net.{Node, Net, plain_node}
use Rattle.wire_edit.specs.declared.steps.Step.{Step}
use Rattle.wire_edit.specs.declared.steps.Step.TheVariants.{Add, Fix, Const, Same, OnePin, Dead}
use Rattle.wire_edit.specs.declared.steps.Rule.TheVariants as rule
use Rattle.wire_edit.specs.declared.refusal.EditRefusal.{EditRefusal}
use Rattle.wire_edit.specs.declared.refusal.EditRefusal.TheVariants.{NoNode, WrongKind, NoPin, Cycle, AlreadyPin, RuleNotMet}
use Rattle.wire_edit.specs.declared.room.Room.{Room}
use Rattle.wire_edit.specs.Order.{node}

abbrev pub gate_of : Kind → List ℕ → Option Node
gate_of kind drivers = Some (record { kind = kind; drivers = drivers })

-- sources a, b, c and d, then And(a, b), And(a, c), Or of both, and And of that and d, which is observed
abbrev pub four_gates : Net
four_gates = record {
  nodes = plain_node Zero ∷ plain_node One ∷ plain_node Source ∷ plain_node Source ∷ plain_node Source ∷ plain_node Source
      ∷ gate_of And (2 ∷ 3 ∷ []) ∷ gate_of And (2 ∷ 4 ∷ []) ∷ gate_of Or (6 ∷ 7 ∷ []) ∷ gate_of And (8 ∷ 5 ∷ []) ∷ [];
  observed = 9 ∷ [];
}

abbrev pub much : Room
much = record { pins = 2; nodes = 1; steps = 8 }

abbrev pub no_pins : Room
no_pins = record { pins = 0; nodes = 1; steps = 8 }

abbrev pub add : ℕ → ℕ → Step
add gate x = Add (node gate) (node x)

abbrev pub add_9_2 : Step
add_9_2 = add 9 2

abbrev pub fix_6_5 : Step
fix_6_5 = Fix (node 6) 5 true

abbrev pub const_6_0 : Step
const_6_0 = Const (node 6) 0

abbrev pub cycle_6_9 : EditRefusal
cycle_6_9 = Cycle (node 6) (node 9)

abbrev pub already_6_2 : EditRefusal
already_6_2 = AlreadyPin (node 6) (node 2)

abbrev pub wrong_2 : EditRefusal
wrong_2 = WrongKind (node 2)

abbrev pub no_node_40 : EditRefusal
no_node_40 = NoNode (node 40)

abbrev pub no_pin_6_5 : EditRefusal
no_pin_6_5 = NoPin (node 6) 5

abbrev pub not_met_6 : EditRefusal
not_met_6 = RuleNotMet rule.Const (node 6)

-- an observed Not of One
abbrev pub zero_row : Net
zero_row = record { nodes = plain_node Zero ∷ plain_node One ∷ gate_of Not (1 ∷ []) ∷ []; observed = 2 ∷ [] }

abbrev pub const_2_0 : Step
const_2_0 = Const (node 2) 0

abbrev pub zero_row_moved : Net
zero_row_moved = record zero_row { observed = 0 ∷ [] }

abbrev pub dead_2 : Step
dead_2 = Dead (node 2)

abbrev pub zero_row_tidy : Net
zero_row_tidy = record { nodes = plain_node Zero ∷ plain_node One ∷ []; observed = 0 ∷ [] }

-- an observed And that reads a source twice
abbrev pub buffer_row : Net
buffer_row = record { nodes = plain_node Zero ∷ plain_node One ∷ plain_node Source ∷ gate_of And (2 ∷ 2 ∷ []) ∷ []; observed = 3 ∷ [] }

abbrev pub same_3_1 : Step
same_3_1 = Same (node 3) 1

abbrev pub buffer_once : Net
buffer_once = record { nodes = plain_node Zero ∷ plain_node One ∷ plain_node Source ∷ gate_of And (2 ∷ []) ∷ []; observed = 3 ∷ [] }

abbrev pub one_pin_3 : Step
one_pin_3 = OnePin (node 3)

abbrev pub buffer_moved : Net
buffer_moved = record buffer_once { observed = 2 ∷ [] }

abbrev pub dead_3 : Step
dead_3 = Dead (node 3)

abbrev pub buffer_tidy : Net
buffer_tidy = record { nodes = plain_node Zero ∷ plain_node One ∷ plain_node Source ∷ []; observed = 2 ∷ [] }

-- an observed Xor of a source and One, and as a Not
abbrev pub turn_row : Net
turn_row = record { nodes = plain_node Zero ∷ plain_node One ∷ plain_node Source ∷ gate_of Xor (2 ∷ 1 ∷ []) ∷ []; observed = 3 ∷ [] }

abbrev pub const_3_1 : Step
const_3_1 = Const (node 3) 1

abbrev pub turn_row_tidy : Net
turn_row_tidy = record { nodes = plain_node Zero ∷ plain_node One ∷ plain_node Source ∷ gate_of Not (2 ∷ []) ∷ []; observed = 3 ∷ [] }

-- an observed Xor of Zero and a source
abbrev pub pass_row : Net
pass_row = record { nodes = plain_node Zero ∷ plain_node One ∷ plain_node Source ∷ gate_of Xor (0 ∷ 2 ∷ []) ∷ []; observed = 3 ∷ [] }

abbrev pub const_3_0 : Step
const_3_0 = Const (node 3) 0

abbrev pub pass_row_moved : Net
pass_row_moved = record pass_row { observed = 2 ∷ [] }

-- an observed Xor that reads a source twice
abbrev pub even_row : Net
even_row = record { nodes = plain_node Zero ∷ plain_node One ∷ plain_node Source ∷ gate_of Xor (2 ∷ 2 ∷ []) ∷ []; observed = 3 ∷ [] }

abbrev pub even_row_moved : Net
even_row_moved = record even_row { observed = 0 ∷ [] }
