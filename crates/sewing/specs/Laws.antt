-- What follows of the definitions.
use Rattle.std.specs.Prelude.{◌≡◌, ◌<◌, ◌≤◌, ◌^◌, ℕ, false, List, [], ◌∷◌, ◌++◌, length, sum_by}
use Rattle.rm_model.specs.Value.{Equivalent, IsRanked}
use Rattle.rm_model.specs.WellFormed.{IsWellFormed}
use Rattle.rm_model.specs.declared.parts.Model.{Model}
use Rattle.cover_decompose.specs.Count.{decomposed}
use Rattle.sewing.specs.Windows.{IsWindowed, kept_names}
use Rattle.sewing.specs.Names.{IsLead, is_free, free_lead, free_number, numbered_lead}
use Rattle.sewing.specs.Sewn.{sewn, sewn_with}
use Rattle.rm_base.specs.Words.{Word}

-- a well-formed model that computes what the other one does
pub record IsReplacement (m n : Model) : Type 0 where
  pub formed : IsWellFormed n
  pub equivalent : Equivalent m n

-- a replacement for each window, in order
abbrev pub AreParts : List Model → List Model → Type 0
AreParts [] [] = Unit {0}
AreParts [] (p ∷ ps) = ⊥
AreParts (w ∷ ws) [] = ⊥
AreParts (w ∷ ws) (p ∷ ps) = IsReplacement w p × AreParts ws ps

-- so few that numbers of 64 bits count them
pub record AreFew (m : Model) (parts : List Model) : Type 0 where
  pub parts_counted : length parts < 2 ^ 64
  pub names_counted : length (kept_names m parts) < 2 ^ 64

-- with a free lead the sewn model is well formed and computes what the model does
abbrev pub WindowsComposeWith : Type 0
WindowsComposeWith =
    (lead : Word) (m : Model) (windows parts : List Model) → IsWellFormed m → IsRanked m → IsWindowed m windows → AreParts windows parts
    → length parts < 2 ^ 64 → IsLead (kept_names m parts) lead → IsReplacement m (sewn_with lead m parts)

-- where each window is replaced by a well-formed model of the same function, the sewn model is well formed and computes what the model does
abbrev pub WindowsCompose : Type 0
WindowsCompose =
    (m : Model) (windows parts : List Model) → IsWellFormed m → IsRanked m → IsWindowed m windows → AreParts windows parts
    → AreFew m parts → IsReplacement m (sewn m parts)

-- what is sewn has no more wires than the parts have by themselves: a Not that several parts have may be one
abbrev pub WiresAddUp : Type 0
WiresAddUp =
    (m : Model) (windows parts : List Model) → IsWellFormed m → IsRanked m → IsWindowed m windows → AreParts windows parts
    → AreFew m parts → decomposed (sewn m parts) ≤ sum_by decomposed parts

-- one more window with its part
abbrev pub PartsFollow : Type 0
PartsFollow = (windows parts : List Model) (w p : Model) → AreParts windows parts → IsReplacement w p → AreParts (windows ++ w ∷ []) (parts ++ p ∷ [])

-- a window that stays as it is replaces itself
abbrev pub WindowsMayStay : Type 0
WindowsMayStay = (w : Model) → IsWellFormed w → IsRanked w → IsReplacement w w

-- the least lead is free, and none with a smaller number is
pub record IsLeastLead (names : List Word) : Type 0 where
  pub is_lead : IsLead names (free_lead names)
  pub least : (u : ℕ) → u < free_number names → is_free names (numbered_lead u) ≡ false

abbrev pub LeadsAreLeast : Type 0
LeadsAreLeast = (names : List Word) → length names < 2 ^ 64 → IsLeastLead names
