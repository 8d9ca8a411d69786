-- The model of a net: its gates as covers by ascending number, and then copies and constants for the other observed names.
use Rattle.std.specs.Prelude.{zero, suc, ◌+◌, ◌==◌, ℕ, Bool, true, false, nat_le, List, [], ◌∷◌, ◌++◌, map, length, if◌then◌else◌, Option, None, Some, replicate}
use Rattle.rm_model.specs.Value.{source_names, observed_names, is_among, outputs_of}
use Rattle.rm_model.specs.declared.parts.Literal.{Literal}
use Rattle.rm_model.specs.declared.parts.Literal.TheVariants.{Zero, One, Any}
use Rattle.rm_model.specs.declared.parts.Cover.{Cover}
use Rattle.rm_model.specs.declared.parts.Model.{Model}
use Rattle.gate_net.specs.declared.Kind.{Kind}
use Rattle.gate_net.specs.declared.Kind.TheVariants.{And, Or, Not, Xor}
use Rattle.gate_net.specs.Net.{Node, Net}
use Rattle.graph_to_model.specs.Names.{node_name}
use Rattle.rm_base.specs.Words.{Word}

-- one row a pin, with 1 at that pin
abbrev pub row_per_pin : ℕ → List (List Literal)
row_per_pin zero = []
row_per_pin (suc n) = (One ∷ replicate n Any) ∷ map (λ r. Any ∷ r) (row_per_pin n)

abbrev pub cover_with : List Word → Word → Bool → List (List Literal) → Cover
cover_with inputs output on rows = record { inputs = inputs; output = output; on = on; rows = rows }

-- an And is one row of 1s; an Or of at most 64 pins one row a pin, and a wider one a row of 0s that ends in 0; a Not is a row of 0; an Xor two rows
abbrev pub gate_cover_of : Kind → List Word → Word → Option Cover
gate_cover_of And inputs output = Some (cover_with inputs output true (replicate (length inputs) One ∷ []))
gate_cover_of Or inputs output =
    Some (if nat_le (length inputs) 64 then cover_with inputs output true (row_per_pin (length inputs))
    else cover_with inputs output false (replicate (length inputs) Zero ∷ []))
gate_cover_of Not inputs output = Some (cover_with inputs output true ((Zero ∷ []) ∷ []))
gate_cover_of Xor inputs output = Some (cover_with inputs output true ((One ∷ Zero ∷ []) ∷ (Zero ∷ One ∷ []) ∷ []))
gate_cover_of kind inputs output = None

abbrev pub gate_cover : Model → Net → ℕ → Option Node → Option Cover
gate_cover m net n None = None
gate_cover m net n (Some node) = gate_cover_of node.kind (map (node_name m net) node.drivers) (node_name m net n)

abbrev pub onto : {A : Type 0} → Option A → List A → List A
onto None xs = xs
onto (Some x) xs = x ∷ xs

-- the gates of the nodes from this number on
abbrev pub gate_covers : Model → Net → ℕ → List (Option Node) → List Cover
gate_covers m net n [] = []
gate_covers m net n (o ∷ os) = onto (gate_cover m net n o) (gate_covers m net (n + 1) os)

-- a constant, or a copy of its node's name
abbrev pub copy_cover : Model → Net → ℕ → Word → Cover
copy_cover m net n x =
    if n == 0 then cover_with [] x true []
    else (if n == 1 then cover_with [] x true ([] ∷ [])
    else cover_with (node_name m net n ∷ []) x true ((One ∷ []) ∷ []))

-- for each observed name, in order, that is no source and has no cover yet
abbrev pub copy_covers : Model → Net → List Word → List ℕ → List Word → List Cover
copy_covers m net had [] xs = []
copy_covers m net had (n ∷ ns) [] = []
copy_covers m net had (n ∷ ns) (x ∷ xs) =
    if is_among had x then copy_covers m net had ns xs else copy_cover m net n x ∷ copy_covers m net (x ∷ had) ns xs

-- the covers of all gates
abbrev pub covers_of_gates : Model → Net → List Cover
covers_of_gates m net = gate_covers m net 0 net.nodes

-- the names of the sources and the gates
abbrev pub names_before_copies : Model → Net → List Word
names_before_copies m net = source_names m ++ outputs_of (covers_of_gates m net)

-- the copies and constants of the observed names that are none of these
abbrev pub covers_of_copies : Model → Net → List Cover
covers_of_copies m net = copy_covers m net (names_before_copies m net) net.observed (observed_names m)

abbrev pub model_of_net : Model → Net → Model
model_of_net m net = record m { covers = covers_of_gates m net ++ covers_of_copies m net }
