-- What follows of the definitions.
use Rattle.std.specs.Prelude.{◌≡◌, ◌<◌, ◌^◌, ◌↔◌, ℕ, zero, suc, Bool, true, false, List, length, slice_get, None, Some}
use Rattle.rm_base.specs.Words.{Word}
use Rattle.rm_model.specs.Value.{IsConsistent, is_among}
use Rattle.rm_model.specs.declared.parts.Model.{Model}
use Rattle.blif_flatten.specs.declared.modules.Link.{Link}
use Rattle.blif_flatten.specs.declared.modules.Module.{Module}
use Rattle.blif_flatten.specs.Recursion.{recursion_fault}
use Rattle.blif_flatten.specs.Instances.{Calls, name_in, lead, is_free, free_number}
use Rattle.blif_flatten.specs.Flat.{flat_model}
use Rattle.blif_flatten.specs.Hierarchy.{Valuation, IsHierarchyValuation, read_by}

-- a valuation of the flat model is consistent exactly where, read by the names, it is one of the hierarchy
abbrev pub FlatValuations : Type 0
FlatValuations =
    (before : Word) (top : Model) (calls : Calls) (v : Word → Bool)
    → (IsConsistent (flat_model before top calls) v ↔ IsHierarchyValuation top calls (read_by before v))

-- NAMES

-- a name of the top's, or any of another instance
abbrev pub IsHeld : List Word → ℕ → Word → Type 0
IsHeld names zero x = is_among names x ≡ true
IsHeld names (suc i) x = Unit {0}

-- two instances have no name in common, and one instance has none twice
abbrev pub NamesAreOwn : Type 0
NamesAreOwn =
    (names : List Word) (t i j : ℕ) (x y : Word) → is_free names t ≡ true → i < 2 ^ 64 → j < 2 ^ 64 → IsHeld names i x → IsHeld names j y
    → name_in (lead t) i x ≡ name_in (lead t) j y → (i ≡ j) × (x ≡ y)

-- the number in the names is free, and none before it is
abbrev pub NumbersAreLeast : Type 0
NumbersAreLeast =
    (names : List Word) → length names < 2 ^ 64
    → (is_free names (free_number names) ≡ true) × ((u : ℕ) → u < free_number names → is_free names u ≡ false)

-- every valuation of a hierarchy is read from one of the flat model's names
abbrev pub EveryValuationIsRead : Type 0
EveryValuationIsRead =
    (names : List Word) (t bound : ℕ) (w : Valuation) → is_free names t ≡ true → bound < 2 ^ 64
    → (v : Word → Bool) × ((i : ℕ) (x : Word) → i < bound → IsHeld names i x → read_by (lead t) v i x ≡ w i x)

-- RECURSION

-- each module calls modules of lower rank
pub record AreRankedBy (modules : List Module) (rank : ℕ → ℕ) : Type 0 where
  pub small : (k : ℕ) (m : Module) → slice_get modules k ≡ Some m → rank k < length modules
  pub known : (k j : ℕ) (m : Module) (l : Link) → slice_get modules k ≡ Some m → slice_get m.links j ≡ Some l → l.called < length modules
  pub lower : (k j : ℕ) (m : Module) (l : Link) → slice_get modules k ≡ Some m → slice_get m.links j ≡ Some l → rank l.called < rank k

-- no call of such modules is recursive
abbrev pub RankedModulesHaveNoRecursion : Type 0
RankedModulesHaveNoRecursion = (modules : List Module) (rank : ℕ → ℕ) → AreRankedBy modules rank → recursion_fault modules ≡ None
