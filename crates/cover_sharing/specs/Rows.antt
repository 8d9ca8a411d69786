-- A model of six covers of which four are left, by hand.
use Rattle.std.specs.Prelude.{true, List, [], ◌∷◌, codes}
use Rattle.rm_model.specs.declared.parts.Literal.{Literal}
use Rattle.rm_model.specs.declared.parts.Literal.TheVariants.{One, Any}
use Rattle.rm_model.specs.declared.parts.Cover.{Cover}
use Rattle.rm_model.specs.declared.parts.Model.{Model}
use Rattle.rm_base.specs.Words.{Word}
use Rattle.cover_sharing.specs.Shared.{copy_of}

abbrev pub gate : Word → Word → Word → List (List Literal) → Cover
gate a b output rows = record { inputs = a ∷ b ∷ []; output = output; on = true; rows = rows }

-- both inputs
abbrev pub both : Word → Word → Word → Cover
both a b output = gate a b output ((One ∷ One ∷ []) ∷ [])

-- either of them
abbrev pub either : Word → Word → Word → Cover
either a b output = gate a b output ((One ∷ Any ∷ []) ∷ (Any ∷ One ∷ []) ∷ [])

-- s is a, so q is p, and then u is t
abbrev pub repeating : Model
repeating = record {
  name = codes "r";
  inputs = codes "a" ∷ codes "b" ∷ codes "c" ∷ [];
  clocks = [];
  outputs = codes "y" ∷ codes "q" ∷ [];
  latches = [];
  covers =
      both (codes "t") (codes "u") (codes "y")
      ∷ either (codes "q") (codes "c") (codes "u")
      ∷ both (codes "s") (codes "b") (codes "q")
      ∷ copy_of (codes "a") (codes "s")
      ∷ either (codes "p") (codes "c") (codes "t")
      ∷ both (codes "a") (codes "b") (codes "p")
      ∷ [];
}

-- q is observed, and stays as a copy
abbrev pub left_covers : List Cover
left_covers =
    both (codes "a") (codes "b") (codes "p")
    ∷ either (codes "p") (codes "c") (codes "t")
    ∷ copy_of (codes "p") (codes "q")
    ∷ both (codes "t") (codes "t") (codes "y")
    ∷ []
