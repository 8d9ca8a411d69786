-- A reading of a tree.
use Rattle.std.specs.Prelude.{[], length, ℕ, ◌∷◌, ◌≢◌, ◌≤◌}
use Rattle.gate_net.specs.Net.{Net}
use Rattle.refutation.specs.Stack.{AreRead}
use Rattle.refutation.specs.declared.items.Form.{Form}
use Rattle.refutation.specs.declared.items.Item.{Item}
use Rattle.refutation_check.specs.FirstRefusal.{IsRefused}
use Rattle.refutation_check.specs.Inner.Standing.{IsClimbing, left_of}
use Rattle.refutation_check.specs.declared.reading.Walk.{Walk}
use Rattle.refutation_check.specs.declared.refusals.CheckRefusal.{CheckRefusal}
use Rattle.refutation_check.specs.declared.refusals.CheckRefusal.TheVariants.{NoMemory}
use Rattle.refutation_check.specs.Inner.Kept.{FitsIfKept}
use Rattle.rm_base.specs.declared.numbers.Fault.{Fault}

-- what holds of a reading at any time
pub record IsWalk (net : Net) (w : Walk) : Type 0 where
  pub climbs : IsClimbing w.branches
  pub numbers : length net.nodes ≤ w.branches.trail.numbers
  pub sim : FitsIfKept w.sim net

-- the item is read, and leads to what is left now
pub record Goes (net : Net) (fault : Fault) (form : Form) (i : Item) (old new : Walk) : Type 0 where
  pub walk : IsWalk net new
  pub read : AreRead net fault form (left_of old.branches) (i ∷ []) (left_of new.branches)

-- item n is refused so, but for want of memory
abbrev pub Stops : Net → Fault → Form → ℕ → Item → Walk → CheckRefusal → Type 0
Stops net fault form n i old r = r ≢ NoMemory → IsRefused net fault form n (left_of old.branches) (i ∷ []) r
