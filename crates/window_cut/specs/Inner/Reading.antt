-- Covers each of which reads what is there before it.
use Rattle.std.specs.Prelude.{ℕ, List, [], ◌∷◌, ◌++◌}
use Rattle.rm_base.specs.Members.{In}
use Rattle.rm_base.specs.Words.{Word}
use Rattle.rm_model.specs.declared.parts.Cover.{Cover}

-- each cover reads names that are there, or that covers before it give
abbrev pub Reading : List Word → List Cover → Type 0
Reading there [] = Unit {0}
Reading there (c ∷ cs) = ((x : Word) → In c.inputs x → In there x) × Reading (there ++ c.output ∷ []) cs
