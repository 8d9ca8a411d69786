-- Which models can be decomposed, and where lists of names differ.
use Rattle.std.specs.Prelude.{List, None, Option, Some, [], if◌then◌else◌, length, suc, ℕ, ◌<◌, ◌^◌, ◌∷◌, ◌≡◌, ◌≤◌}
use Rattle.std.specs.Option.{option_map}
use Rattle.cover_decompose.specs.Count.{decomposed}
use Rattle.rm_base.specs.Words.{Word}
use Rattle.rm_model.specs.Ranks.{first_without_rank}
use Rattle.rm_model.specs.Value.{observed_names, source_names}
use Rattle.rm_model.specs.WellFormed.{IsWellFormed}
use Rattle.rm_model.specs.Words.{is_word}
use Rattle.rm_model.specs.declared.parts.Model.{Model}

-- what decomposing a model needs
pub record IsReady (m : Model) : Type 0 where
  pub formed : IsWellFormed m
  pub ranked : first_without_rank m ≡ None
  pub covers : length m.covers < 2 ^ 32
  pub sources : length (source_names m) ≤ 1024
  pub observed : length (observed_names m) ≤ 4096
  pub fits : decomposed m < 2 ^ 64

-- the first place, from 1, where the lists differ or one has ended
abbrev pub first_difference : List Word → List Word → Option ℕ
first_difference [] [] = None
first_difference [] (y ∷ ys) = Some 1
first_difference (x ∷ xs) [] = Some 1
first_difference (x ∷ xs) (y ∷ ys) = if is_word x y then option_map (λ k. suc k) (first_difference xs ys) else Some 1
