-- A vector and the names of a model's sources.
use Rattle.std.proofs.Common.{Bool, List, [], ap, arith, false, map, suc, sym, zero, ℕ, ◌+◌, ◌-◌, ◌∙◌, ◌∷◌, ◌≡◌}
use Rattle.std.specs.Prelude.{Some, slice_get, slice_index_or}
use Rattle.cover_decompose.specs.StandsFor.{SameAssignment}
use Rattle.gate_net.specs.Faults.{assigned}
use Rattle.rm_base.specs.Words.{Word}
use Rattle.rm_model.specs.Value.{source_names}
use Rattle.rm_model.specs.declared.parts.Model.{Model}

value_of_item : (v : Word → Bool) (xs : List Word) (k : ℕ) (x : Word) → slice_get xs k ≡ Some x → slice_index_or (map v xs) k false ≡ v x
value_of_item v [] k x e = absurd cc
value_of_item v (y ∷ xs) zero x e = let same : y ≡ x = cc in ap v same
value_of_item v (y ∷ xs) (suc k) x e = value_of_item v xs k x e

-- the assignment by a vector gives each source its name's value
pub gives_names : (m : Model) (v : Word → Bool) (bits : List Bool) → map v (source_names m) ≡ bits → SameAssignment m (assigned bits) v
gives_names m v bits e k x at =
    let place : (2 + k) - 2 ≡ k = omega arith in
    ap (λ (i : ℕ). slice_index_or bits i false) place ∙ (ap (λ (l : List Bool). slice_index_or l k false) (sym e) ∙ value_of_item v (source_names m) k x at)
