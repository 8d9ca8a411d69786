-- Models that are worked out by hand, and the gates of their nets.
use Rattle.std.specs.Prelude.{ℕ, Bool, true, false, List, [], ◌∷◌, ◌++◌, Some, codes, map}
use Rattle.rm_model.specs.declared.parts.Literal.{Literal}
use Rattle.rm_model.specs.declared.parts.Literal.TheVariants.{Zero, One, Any}
use Rattle.rm_model.specs.declared.parts.Cover.{Cover}
use Rattle.rm_model.specs.declared.parts.Model.{Model}
use Rattle.gate_net.specs.declared.Kind.TheVariants.{And, Or, Not, Xor}
use Rattle.gate_net.specs.Net.{Node, Net}
use Rattle.cover_decompose.specs.Decomposition.{start}
use Rattle.rm_base.specs.Words.{Word}

abbrev pub model_with : Word → List Word → List Word → List Cover → Model
model_with name inputs outputs covers = record { name = name; inputs = inputs; clocks = []; outputs = outputs; latches = []; covers = covers }

-- the net with these gates, numbered from the first number after the sources, and these observed nodes
abbrev pub net_with : Model → List Node → List ℕ → Net
net_with m gates observed = record { nodes = map (λ n. Some n) ((start m).made ++ gates); observed = observed }

abbrev pub and_gate : List ℕ → Node
and_gate drivers = record { kind = And; drivers = drivers }

abbrev pub or_gate : List ℕ → Node
or_gate drivers = record { kind = Or; drivers = drivers }

abbrev pub not_gate : ℕ → Node
not_gate driver = record { kind = Not; drivers = driver ∷ [] }

abbrev pub xor_gate : ℕ → ℕ → Node
xor_gate one other = record { kind = Xor; drivers = one ∷ other ∷ [] }

-- a row of one literal, and a row that it covers
abbrev pub r2 : Model
r2 = model_with (codes "r2") (codes "x" ∷ codes "y" ∷ []) (codes "z" ∷ [])
    (record { inputs = codes "x" ∷ codes "y" ∷ []; output = codes "z"; on = true; rows = (One ∷ Any ∷ []) ∷ (One ∷ One ∷ []) ∷ [] } ∷ [])

-- a cover that reads another
abbrev pub r3 : Model
r3 = model_with (codes "r3") (codes "a" ∷ codes "b" ∷ codes "c" ∷ codes "d" ∷ []) (codes "k" ∷ [])
    (record { inputs = codes "a" ∷ codes "b" ∷ codes "c" ∷ []; output = codes "o"; on = true; rows = (One ∷ One ∷ Any ∷ []) ∷ (One ∷ Any ∷ One ∷ []) ∷ [] }
    ∷ record { inputs = codes "o" ∷ codes "d" ∷ []; output = codes "k"; on = true; rows = (One ∷ One ∷ []) ∷ [] } ∷ [])

-- rows that end in 0
abbrev pub r5 : Model
r5 = model_with (codes "r5") (codes "a" ∷ codes "b" ∷ []) (codes "z" ∷ [])
    (record { inputs = codes "a" ∷ codes "b" ∷ []; output = codes "z"; on = false; rows = (Zero ∷ Zero ∷ []) ∷ [] } ∷ [])

-- one of two by a third, with a term that is not needed
abbrev pub mux : Model
mux = model_with (codes "mux") (codes "s" ∷ codes "a" ∷ codes "b" ∷ []) (codes "y" ∷ [])
    (record {
      inputs = codes "s" ∷ codes "a" ∷ codes "b" ∷ [];
      output = codes "y";
      on = true;
      rows = (Zero ∷ One ∷ Any ∷ []) ∷ (One ∷ Any ∷ One ∷ []) ∷ (Any ∷ One ∷ One ∷ []) ∷ [];
    } ∷ [])

-- constants: no rows, one row without literals, and two such rows
abbrev pub constant : List (List Literal) → Model
constant rows = model_with (codes "r6") [] (codes "z" ∷ []) (record { inputs = []; output = codes "z"; on = true; rows = rows } ∷ [])

-- one cover of these inputs, with two rows of this ending
abbrev pub two_rows : List Word → Bool → List Literal → List Literal → Model
two_rows inputs on first second = model_with (codes "x") (codes "a" ∷ codes "b" ∷ []) (codes "z" ∷ [])
    (record { inputs = inputs; output = codes "z"; on = on; rows = first ∷ second ∷ [] } ∷ [])

-- whether two inputs differ, and whether they agree, by rows of either ending
abbrev pub differ : Bool → Model
differ on = two_rows (codes "a" ∷ codes "b" ∷ []) on (One ∷ Zero ∷ []) (Zero ∷ One ∷ [])

abbrev pub agree : Bool → Model
agree on = two_rows (codes "a" ∷ codes "b" ∷ []) on (Zero ∷ Zero ∷ []) (One ∷ One ∷ [])

-- the same rows over one name twice
abbrev pub twice : Model
twice = two_rows (codes "a" ∷ codes "a" ∷ []) true (One ∷ Zero ∷ []) (Zero ∷ One ∷ [])

-- a later cover that reads an earlier one only through `-`, and one that nothing needs
abbrev pub dashed : Model
dashed = model_with (codes "dashed") (codes "a" ∷ codes "b" ∷ []) (codes "z" ∷ [])
    (record { inputs = codes "p" ∷ codes "a" ∷ []; output = codes "z"; on = true; rows = (Any ∷ One ∷ []) ∷ [] }
    ∷ record { inputs = codes "a" ∷ codes "b" ∷ []; output = codes "p"; on = true; rows = (One ∷ One ∷ []) ∷ [] }
    ∷ record { inputs = codes "a" ∷ codes "b" ∷ []; output = codes "q"; on = true; rows = (Zero ∷ Zero ∷ []) ∷ [] } ∷ [])
