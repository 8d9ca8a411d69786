-- What the last records of a journal say of the faults of the last net.
use Rattle.std.specs.Prelude.{◌≡◌, ℕ, Bool, suc, ◌≤◌, ◌+◌, ◌^◌, List, [], ◌∷◌, Some, slice_get}
use Rattle.rm_base.specs.declared.numbers.Fault.{Fault}
use Rattle.gate_net.specs.Net.{Net, source_count}
use Rattle.gate_net.specs.Values.{Detects}
use Rattle.gate_net.specs.Faults.{assigned}
use Rattle.refutation.specs.declared.items.Item.{Item}
use Rattle.podem.specs.Verdicts.{IsSpent}
use Rattle.journal_text.specs.declared.record.Record.{Record}
use Rattle.journal_text.specs.declared.record.Record.TheVariants.{Step, Hit, Spent}

-- each spent search is an open search of exactly the budget; no vector that was written detects its fault; and a budget of
-- 2 ^ (n + 1) leaves none, n being the number of sources
pub record AreSearched (net : Net) (budget : ℕ) (verdicts : List Record) : Type 0 where
  pub open_searches : (place : ℕ) (fault : Fault) (tree : List Item) → slice_get verdicts place ≡ Some (Spent fault tree) → IsSpent net fault budget tree
  pub undetected :
      (i j : ℕ) (fault other : Fault) (tree : List Item) (vector : List Bool) → slice_get verdicts i ≡ Some (Spent fault tree) → slice_get verdicts j ≡ Some (Hit other vector)
      → Detects net fault (assigned vector) → ⊥
  pub decided :
      2 ^ (source_count net + 1) ≤ budget → (place : ℕ) (fault : Fault) (tree : List Item) → slice_get verdicts place ≡ Some (Spent fault tree) → ⊥

-- how many faults have a vector
abbrev pub hits_among : List Record → ℕ
hits_among [] = 0
hits_among (Hit fault vector ∷ records) = suc (hits_among records)
hits_among (Step s tree ∷ records) = hits_among records
hits_among (Spent fault tree ∷ records) = hits_among records

-- how many have a spent search
abbrev pub spents_among : List Record → ℕ
spents_among [] = 0
spents_among (Spent fault tree ∷ records) = suc (spents_among records)
spents_among (Step s tree ∷ records) = spents_among records
spents_among (Hit fault vector ∷ records) = spents_among records
