-- A model of three windows, and what is sewn of parts for them, by hand.
use Rattle.std.specs.Prelude.{true, false, Bool, List, [], ◌∷◌, ◌++◌, codes}
use Rattle.rm_base.specs.Words.{Word}
use Rattle.rm_model.specs.declared.parts.Literal.{Literal}
use Rattle.rm_model.specs.declared.parts.Literal.TheVariants.{Zero, One, Any}
use Rattle.rm_model.specs.declared.parts.Cover.{Cover}
use Rattle.rm_model.specs.declared.parts.Model.{Model}

abbrev pub cover : List Word → Word → Bool → List (List Literal) → Cover
cover inputs output on rows = record { inputs = inputs; output = output; on = on; rows = rows }

abbrev pub plain_model : List Word → List Word → List Cover → Model
plain_model inputs outputs covers = record { name = codes "r"; inputs = inputs; clocks = []; outputs = outputs; latches = []; covers = covers }

-- t is not (a and b), y is not (t or c), and z is y and t; the first input has a name that the first lead begins
abbrev pub first_covers : List Cover
first_covers = cover (codes "w0_" ∷ codes "b" ∷ []) (codes "p") true ((One ∷ One ∷ []) ∷ []) ∷ cover (codes "p" ∷ []) (codes "t") true ((Zero ∷ []) ∷ []) ∷ []

abbrev pub second_covers : List Cover
second_covers = cover (codes "t" ∷ codes "c" ∷ []) (codes "q") true ((One ∷ Any ∷ []) ∷ (Any ∷ One ∷ []) ∷ []) ∷ cover (codes "q" ∷ []) (codes "y") true ((Zero ∷ []) ∷ []) ∷ []

abbrev pub third_covers : List Cover
third_covers = cover (codes "y" ∷ codes "t" ∷ []) (codes "s") true ((One ∷ One ∷ []) ∷ []) ∷ cover (codes "s" ∷ []) (codes "z") true ((One ∷ []) ∷ []) ∷ []

abbrev pub whole : Model
whole = plain_model (codes "w0_" ∷ codes "b" ∷ codes "c" ∷ []) (codes "y" ∷ codes "z" ∷ []) (first_covers ++ (second_covers ++ third_covers))

abbrev pub windows : List Model
windows =
    plain_model (codes "w0_" ∷ codes "b" ∷ []) (codes "t" ∷ []) first_covers
    ∷ plain_model (codes "t" ∷ codes "c" ∷ []) (codes "y" ∷ []) second_covers
    ∷ plain_model (codes "y" ∷ codes "t" ∷ []) (codes "z" ∷ []) third_covers ∷ []

-- the first window without its inner name, the second with another one, and the third as it was
abbrev pub parts : List Model
parts =
    plain_model (codes "w0_" ∷ codes "b" ∷ []) (codes "t" ∷ []) (cover (codes "w0_" ∷ codes "b" ∷ []) (codes "t") false ((One ∷ One ∷ []) ∷ []) ∷ [])
    ∷ plain_model (codes "t" ∷ codes "c" ∷ []) (codes "y" ∷ []) (cover (codes "t" ∷ []) (codes "n0_4") true ((Zero ∷ []) ∷ []) ∷ cover (codes "n0_4" ∷ codes "c" ∷ []) (codes "y") true ((One ∷ Zero ∷ []) ∷ []) ∷ [])
    ∷ plain_model (codes "y" ∷ codes "t" ∷ []) (codes "z" ∷ []) third_covers ∷ []

abbrev pub sewn_parts : List Cover
sewn_parts =
    cover (codes "w0_" ∷ codes "b" ∷ []) (codes "t") false ((One ∷ One ∷ []) ∷ [])
    ∷ cover (codes "t" ∷ []) (codes "w1_2_n0_4") true ((Zero ∷ []) ∷ [])
    ∷ cover (codes "w1_2_n0_4" ∷ codes "c" ∷ []) (codes "y") true ((One ∷ Zero ∷ []) ∷ [])
    ∷ cover (codes "y" ∷ codes "t" ∷ []) (codes "w1_3_s") true ((One ∷ One ∷ []) ∷ [])
    ∷ cover (codes "w1_3_s" ∷ []) (codes "z") true ((One ∷ []) ∷ []) ∷ []
