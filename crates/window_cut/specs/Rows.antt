-- A model of five covers, of which four are needed, and its windows of two gates each, by hand.
use Rattle.std.specs.Prelude.{true, List, [], ◌∷◌, codes}
use Rattle.rm_model.specs.declared.parts.Literal.{Literal}
use Rattle.rm_model.specs.declared.parts.Literal.TheVariants.{One, Any}
use Rattle.rm_model.specs.declared.parts.Cover.{Cover}
use Rattle.rm_model.specs.declared.parts.Model.{Model}
use Rattle.rm_base.specs.Words.{Word}

abbrev pub gate : Word → Word → Word → List (List Literal) → Cover
gate a b output rows = record { inputs = a ∷ b ∷ []; output = output; on = true; rows = rows }

-- both inputs, and either of them
abbrev pub and_rows : List (List Literal)
and_rows = (One ∷ One ∷ []) ∷ []

abbrev pub or_rows : List (List Literal)
or_rows = (One ∷ Any ∷ []) ∷ (Any ∷ One ∷ []) ∷ []

abbrev pub plain_model : Word → List Word → List Word → List Cover → Model
plain_model name inputs outputs covers = record { name = name; inputs = inputs; clocks = []; outputs = outputs; latches = []; covers = covers }

-- p and t, which z and y read
abbrev pub first_gates : List Cover
first_gates = gate (codes "a") (codes "b") (codes "p") and_rows ∷ gate (codes "p") (codes "c") (codes "t") or_rows ∷ []

abbrev pub z_gate : Cover
z_gate = gate (codes "p") (codes "t") (codes "z") and_rows

abbrev pub y_gate : Cover
y_gate = gate (codes "t") (codes "d") (codes "y") and_rows

-- z stands before the gates that it reads, and nothing needs q
abbrev pub four_gates : Model
four_gates = plain_model (codes "m") (codes "a" ∷ codes "b" ∷ codes "c" ∷ codes "d" ∷ []) (codes "z" ∷ codes "y" ∷ [])
    (z_gate
    ∷ gate (codes "a") (codes "b") (codes "p") and_rows
    ∷ gate (codes "a") (codes "t") (codes "q") and_rows
    ∷ gate (codes "p") (codes "c") (codes "t") or_rows
    ∷ y_gate
    ∷ [])

abbrev pub first_half : Model
first_half = plain_model (codes "w1") (codes "a" ∷ codes "b" ∷ codes "c" ∷ []) (codes "p" ∷ codes "t" ∷ []) first_gates

abbrev pub second_half : Model
second_half = plain_model (codes "w2") (codes "p" ∷ codes "t" ∷ codes "d" ∷ []) (codes "z" ∷ codes "y" ∷ []) (z_gate ∷ y_gate ∷ [])
