-- Searching the next faults of a pass.
use Rattle.std.specs.Prelude.{◌≡◌, ◌<◌, ◌++◌, ◌∷◌, [], ℕ, Bool, List, Option, None, Some, length, slice_set}
use Rattle.gate_net.specs.Net.{Net}
use Rattle.podem.specs.declared.verdict.Verdict.{Verdict}
use Rattle.podem.specs.declared.verdict.Verdict.TheVariants as verdict
use Rattle.refutation.specs.declared.items.Item.{Item}
use Rattle.rm_base.specs.declared.numbers.Fault.{Fault}
use Rattle.closing_pass.specs.declared.finding.Finding.{Finding}
use Rattle.closing_pass.specs.declared.finding.Finding.TheVariants.{Detected, Spent}
use Rattle.closing_pass.specs.Inner.Findings.{HasCome, IsRefuted}

-- what a verdict makes of the kept vectors and of the finding at a place
abbrev pub HasTaken : Verdict → ℕ → List (List Bool) → List (List Bool) → List Finding → List Finding → Type 0
HasTaken (verdict.Refuted tree) place kept kept' found found' = (kept' ≡ kept) × (found' ≡ found)
HasTaken (verdict.Spent tree) place kept kept' found found' = (kept' ≡ kept) × (found' ≡ slice_set found place (Spent tree))
HasTaken (verdict.Detected vector) place kept kept' found found' = (kept' ≡ kept ++ vector ∷ []) × (found' ≡ slice_set found place (Detected (length kept)))

-- the tree of a refutation
abbrev pub tree_in : Verdict → Option (List Item)
tree_in (verdict.Refuted tree) = Some tree
tree_in _ = None

-- a refuted fault; or the pass has come further
abbrev pub IsSearched : Net → ℕ → List (List Bool) → ℕ → List Fault → List Finding → ℕ → ℕ → Option (Fault × List Item) → Type 0
IsSearched net budget kept tried faults found before next (Some refuted) = IsRefuted net refuted
IsSearched net budget kept tried faults found before next None = HasCome net budget kept tried faults found next × (before < next)
