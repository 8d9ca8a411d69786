-- The first refusal of a tree.
use Rattle.std.specs.Prelude.{List, [], length, suc, ℕ, ◌++◌, ◌∷◌, ◌≡◌, ◌≢◌, ◌⊎◌}
use Rattle.gate_net.specs.Net.{Net}
use Rattle.refutation.specs.Facts.{AreOpposed, none_held}
use Rattle.refutation.specs.Lines.{IsQuiet}
pub use Rattle.refutation.specs.Stack.{IsAcceptedAs}
use Rattle.refutation.specs.Stack.{AreRead, Due, tree}
use Rattle.refutation.specs.declared.items.Form.{Form}
use Rattle.refutation.specs.declared.items.Item.{Item}
use Rattle.refutation.specs.declared.items.Item.TheVariants.{Clash, Line, Quiet, Split}
use Rattle.refutation_check.specs.declared.refusals.CheckRefusal.{CheckRefusal}
use Rattle.refutation_check.specs.declared.refusals.CheckRefusal.TheVariants.{BadLine, BadSplit, NotClash, NotQuiet, Shape}
use Rattle.rm_base.specs.declared.numbers.Fault.{Fault}

-- the one where the condition holds, and the other where it doesn't
abbrev pub Decides : Type 0 → CheckRefusal → CheckRefusal → CheckRefusal → Type 0
Decides P met unmet r = (P × (r ≡ met)) ⊎ ((P → ⊥) × (r ≡ unmet))

-- how item n is refused where it isn't read: for its condition, or for the shape of the tree where that is met
abbrev pub IsRefusalOf : Net → Fault → ℕ → List Due → Item → CheckRefusal → Type 0
IsRefusalOf net fault n (tree held ∷ left) (Line l) r = r ≡ BadLine n
IsRefusalOf net fault n (tree held ∷ left) (Split x first) r = r ≡ BadSplit n
IsRefusalOf net fault n (tree held ∷ left) (Clash x) r = Decides (AreOpposed held x.0) (Shape n) (NotClash n) r
IsRefusalOf net fault n (tree held ∷ left) Quiet r = Decides (IsQuiet net fault held) (Shape n) (NotQuiet n) r
IsRefusalOf net fault n left i r = r ≡ Shape n

-- the first of these items, which is item n, isn't read, or there is none and something is left to be read
abbrev pub IsRefused : Net → Fault → Form → ℕ → List Due → List Item → CheckRefusal → Type 0
IsRefused net fault form n left [] r = (left ≢ []) × (r ≡ Shape n)
IsRefused net fault form n left (i ∷ items) r =
    ((next : List Due) → AreRead net fault form left (i ∷ []) next → ⊥) × IsRefusalOf net fault n left i r

-- the first refusal of a tree, its items counted from 1: those before are read, and what follows is refused
pub record IsFirstRefusal (net : Net) (fault : Fault) (form : Form) (items : List Item) (r : CheckRefusal) : Type 0 where
  pub before : List Item
  pub rest : List Item
  pub left : List Due
  pub items_are : items ≡ before ++ rest
  pub read : AreRead net fault form (tree none_held ∷ []) before left
  pub refused : IsRefused net fault form (suc (length before)) left rest r
