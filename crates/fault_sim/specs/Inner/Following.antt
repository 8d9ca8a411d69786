-- Beside Following.antt: what only private contracts, invariants and laws speak of.
use Rattle.std.specs.Prelude.{List, Some, slice_get, take, ℕ, ◌<◌, ◌≡◌, ◌≤◌}
use Rattle.gate_net.specs.Net.{Net}
use Rattle.fault_sim.specs.BlockStates.{IsSimulatedBlock}
use Rattle.fault_sim.specs.Inner.BlockStates.{words_of}
use Rattle.fault_sim.specs.declared.blocks.Block.{Block}
use Rattle.fault_sim.specs.Following.{IsGrown}

-- the first blocks are simulated on the net, and all have the words of before
pub record AreFollowed (net : Net) (order : List ℕ) (numbers : ℕ) (old blocks : List Block) (n : ℕ) : Type 0 where
  pub done : (b : ℕ) (block : Block) → b < n → slice_get blocks b ≡ Some block → IsSimulatedBlock net order numbers block
  pub ahead : (b : ℕ) → n ≤ b → slice_get blocks b ≡ slice_get old b
  pub words : words_of blocks ≡ words_of old

-- the block is one of these, grown
pub record IsGrownOf (numbers : ℕ) (old : List Block) (block : Block) : Type 0 where
  pub number : ℕ
  pub from : Block
  pub there : slice_get old number ≡ Some from
  pub grown : IsGrown numbers from block

-- these are the first of the old blocks, grown
pub record AreGrown (numbers : ℕ) (old blocks : List Block) (n : ℕ) : Type 0 where
  pub words : words_of blocks ≡ words_of (take n old)
  pub each : (b : ℕ) (block : Block) → slice_get blocks b ≡ Some block → IsGrownOf numbers old block
