-- What flattening a text gives.
use Rattle.std.specs.Prelude.{◌≡◌, ◌+◌, ℕ, Bool, List, ◌∷◌, ◌↔◌, None}
use Rattle.rm_base.specs.Words.{Word}
use Rattle.rm_model.specs.Value.{IsConsistent, IsRanked}
use Rattle.rm_model.specs.WellFormed.{IsWellFormed}
use Rattle.rm_model.specs.declared.parts.Model.{Model}
use Rattle.blif_flatten.specs.declared.modules.Module.{Module}
use Rattle.blif_flatten.specs.Sections.{sections_of}
use Rattle.blif_flatten.specs.Instances.{modules_of, instance_count}
use Rattle.blif_flatten.specs.Flat.{flat_model}
use Rattle.blif_flatten.specs.Hierarchy.{IsHierarchyValuation, read_by}
use Rattle.blif_flatten.specs.FirstFault.{first_fault, lead_in, tree_of}

-- the flat model of a text without a first fault, its instances having at most so many tokens in all, and what its valuations mean
pub record IsFlatModel (most : ℕ) (text : List ℕ) (m : Model) (instances : ℕ) : Type 0 where
  pub faultless : first_fault most text ≡ None
  pub top : Module
  pub others : List Module
  pub modules : modules_of (sections_of text) ≡ top ∷ others
  pub model : m ≡ flat_model (lead_in (sections_of text)) top.model (tree_of (top ∷ others) top)
  pub count : instances ≡ 1 + instance_count (tree_of (top ∷ others) top)
  pub formed : IsWellFormed m
  pub ranked : IsRanked m
  pub valuations : (v : Word → Bool) → (IsConsistent m v ↔ IsHierarchyValuation top.model (tree_of (top ∷ others) top) (read_by (lead_in (sections_of text)) v))
