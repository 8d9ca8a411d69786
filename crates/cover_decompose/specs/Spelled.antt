-- The decomposition of a model without Xor gates: a parity cover is spelled, so that it is decomposed by its rows.
use Rattle.std.specs.Prelude.{ℕ, Bool, List, [], ◌∷◌, ◌++◌, map, Option, None, Some}
use Rattle.rm_model.specs.declared.parts.Literal.{Literal}
use Rattle.rm_model.specs.declared.parts.Literal.TheVariants.{Any}
use Rattle.rm_model.specs.declared.parts.Cover.{Cover}
use Rattle.rm_model.specs.declared.parts.Model.{Model}
use Rattle.gate_net.specs.Net.{Net}
use Rattle.cover_decompose.specs.Count.{decomposed}
use Rattle.cover_decompose.specs.Decomposition.{net_of_model}
use Rattle.cover_decompose.specs.Parity.{parity_ending}
use Rattle.rm_base.specs.Words.{Word}

-- the names, and the first of them once more
abbrev pub first_again : List Word → List Word
first_again [] = []
first_again (x ∷ xs) = x ∷ xs ++ x ∷ []

-- the row with a `-` at its end
abbrev pub with_any : List Literal → List Literal
with_any row = row ++ Any ∷ []

-- a parity cover gets its first input once more, which no row reads, so that it has three inputs
abbrev pub spelled_by : Option Bool → Cover → Cover
spelled_by None c = c
spelled_by (Some ends) c = record c { inputs = first_again c.inputs; rows = map with_any c.rows }

abbrev pub spelled_cover : Cover → Cover
spelled_cover c = spelled_by (parity_ending c) c

-- the model of the same function without parity covers
abbrev pub spelled : Model → Model
spelled m = record m { covers = map spelled_cover m.covers }

-- the decomposition in which a parity cover is an Or of Ands of literals like any other
abbrev pub plain_net : Model → Net
plain_net m = net_of_model (spelled m)

-- the number of its wires
abbrev pub plain_decomposed : Model → ℕ
plain_decomposed m = decomposed (spelled m)
