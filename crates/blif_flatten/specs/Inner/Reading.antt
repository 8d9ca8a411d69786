-- What is found of a text before its flat model is made.
use Rattle.std.specs.Prelude.{◌≡◌, ◌≤◌, ◌+◌, ℕ, List, [], ◌∷◌, length, slice_get, Option, Some}
use Rattle.blif_format.specs.declared.refusal.ReadRefusal.{ReadRefusal}
use Rattle.blif_format.specs.FirstFault.{or_else}
use Rattle.blif_flatten.specs.declared.modules.Link.{Link}
use Rattle.blif_flatten.specs.declared.modules.Module.{Module}
use Rattle.blif_flatten.specs.declared.reading.Linked.{Linked}
use Rattle.blif_flatten.specs.Sections.{Section}
use Rattle.blif_flatten.specs.CallFaults.{calls_fault, drivers_fault, users_fault}
use Rattle.blif_flatten.specs.Recursion.{recursion_fault}
use Rattle.blif_flatten.specs.Instances.{modules_of}
use Rattle.blif_flatten.specs.Laws.{AreRankedBy}
use Rattle.blif_flatten.specs.FirstFault.{lead_in}
use Rattle.blif_flatten.specs.Inner.Ranks.{AreFalling}

-- calls, recursion, drivers, users
abbrev pub names_fault : List Section → Option ReadRefusal
names_fault sections =
    or_else (calls_fault sections)
    (or_else (recursion_fault (modules_of sections))
    (or_else (drivers_fault sections) (users_fault sections)))

-- the pins of these calls
abbrev pub links_weight : List Link → ℕ
links_weight [] = 0
links_weight (l ∷ ls) = length l.pins + links_weight ls

-- each cover has a place, and covers and pins are no more than tokens
pub record IsLight (modules : List Module) : Type 0 where
  pub placed : (k : ℕ) (m : Module) → slice_get modules k ≡ Some m → length m.places ≡ length m.model.covers
  pub light : (k : ℕ) (m : Module) → slice_get modules k ≡ Some m → length m.model.covers + links_weight m.links ≤ m.tokens

pub record IsLinked (sections : List Section) (l : Linked) : Type 0 where
  pub modules_are : l.modules.items ≡ modules_of sections
  pub lead_is : l.lead.items ≡ lead_in sections
  pub falling : AreFalling l.numbers.items (modules_of sections)
  pub ranked : (rank : ℕ → ℕ) × AreRankedBy (modules_of sections) rank
  pub light : IsLight (modules_of sections)
  pub positive : (k : ℕ) (m : Module) → slice_get (modules_of sections) k ≡ Some m → 1 ≤ m.tokens
