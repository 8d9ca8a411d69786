-- The faults of a net, and the records that settle them.
use Rattle.std.specs.Prelude.{◌≡◌, ℕ, ◌-◌, ◌*◌, List, [], ◌∷◌}
use Rattle.rm_base.specs.declared.numbers.Fault.{Fault}
use Rattle.gate_net.specs.Net.{Net}
use Rattle.gate_net.specs.Faults.{IsTest}
use Rattle.refutation.specs.Branches.{AreAcceptedPartial}
use Rattle.refutation.specs.Stack.{splits_among, untrieds_among}
use Rattle.refutation.specs.declared.items.Item.{Item}
use Rattle.journal_text.specs.declared.record.Record.{Record}
use Rattle.journal_text.specs.declared.record.Record.TheVariants.{Step, Hit, Spent}

-- two edges for each split, less one for each Untried
abbrev pub edges_of : List Item → ℕ
edges_of tree = 2 * splits_among tree - untrieds_among tree

-- an accepted partial tree with exactly so many edges
pub record IsSpent (net : Net) (budget : ℕ) (fault : Fault) (tree : List Item) : Type 0 where
  pub accepted : AreAcceptedPartial net fault tree
  pub edges : edges_of tree ≡ budget

-- the record settles the fault
abbrev pub Settles : Net → ℕ → Fault → Record → Type 0
Settles net budget fault (Step s tree) = ⊥
Settles net budget fault (Hit given vector) = (given ≡ fault) × IsTest net fault vector
Settles net budget fault (Spent given tree) = (given ≡ fault) × IsSpent net budget fault tree

-- one record for each fault, in order, and nothing else
abbrev pub SettleAll : Net → ℕ → List Fault → List Record → Type 0
SettleAll net budget [] [] = Unit {0}
SettleAll net budget [] (r ∷ rs) = ⊥
SettleAll net budget (f ∷ fs) [] = ⊥
SettleAll net budget (f ∷ fs) (r ∷ rs) = Settles net budget f r × SettleAll net budget fs rs
