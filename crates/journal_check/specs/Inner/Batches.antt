-- Vectors that were simulated over a net, 64 at a time.
use Rattle.std.specs.Prelude.{◌≡◌, ℕ, List, Bool, length}
use Rattle.gate_net.specs.Net.{Net}
use Rattle.gate_net.specs.Faults.{assigned}
use Rattle.fault_sim.specs.LaneStates.{Fits, IsSimulated}
use Rattle.fault_sim.specs.Words.{assignment}
use Rattle.journal_check.specs.Inner.Tracing.{AreShown}
use Rattle.journal_check.specs.declared.batches.Batch.{Batch}

-- bit i of the words is that vector
abbrev pub IsLaneOf : List ℕ → ℕ → List Bool → Type 0
IsLaneOf words i vector = (length vector ≡ length words) × (assignment words i ≡ assigned vector)

-- the lanes fit the net and hold the good values under the words, and what is known of changes is so
pub record IsBatch (net : Net) (b : Batch) : Type 0 where
  pub fits : Fits b.lanes net
  pub simulated : IsSimulated b.lanes net
  pub words : b.lanes.words ≡ b.words.items
  pub shown : AreShown net b.lanes.words b.shown.items
