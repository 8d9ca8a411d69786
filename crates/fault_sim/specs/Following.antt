-- Words that follow a net that changes.
use Rattle.std.specs.Prelude.{List, None, Some, length, map, replicate, slice_get, slice_index, ℕ, ◌++◌, ◌-◌, ◌<◌, ◌≡◌, ◌≢◌, ◌≤◌, ◌⊎◌}
use Rattle.gate_net.specs.Edits.{IsSameBut}
use Rattle.gate_net.specs.Net.{Net, Reads, drivers_of, node_at, source_count}
use Rattle.gate_net.specs.Values.{node_value}
use Rattle.fault_sim.specs.BlockStates.{AreGoodWords, AreSimulated, BlockState}
use Rattle.fault_sim.specs.LaneStates.{Fits, IsSimulated, LaneState}
use Rattle.fault_sim.specs.Pending.{IsIdle, IsPending}
use Rattle.fault_sim.specs.Words.{assignment, lane_values}
use Rattle.fault_sim.specs.declared.blocks.Block.{Block}

-- the nets have as many sources, and the same nodes but for these numbers
pub record DiffersAmong (before net : Net) (changed : List ℕ) : Type 0 where
  pub sources : source_count net ≡ source_count before
  pub others : IsSameBut before net changed

-- the lanes are simulated for a net that differs from this one among these numbers alone
pub record CanFollow (s : LaneState) (net : Net) (changed : List ℕ) : Type 0 where
  pub before : Net
  pub fits : Fits s before
  pub simulated : IsSimulated s before
  pub differs : DiffersAmong before net changed

-- the blocks are simulated for such a net
pub record CanAllFollow (s : BlockState) (net : Net) (changed : List ℕ) : Type 0 where
  pub before : Net
  pub simulated : AreSimulated s before
  pub differs : DiffersAmong before net changed

-- the words are good for a net that differs from this one among these numbers alone
pub record WereGood (net : Net) (words good changed : List ℕ) : Type 0 where
  pub before : Net
  pub values : AreGoodWords before words good
  pub differs : DiffersAmong before net changed

-- the block's good words are those of such a net
pub record WasGoodBlock (net : Net) (numbers : ℕ) (changed : List ℕ) (block : Block) : Type 0 where
  pub size : length block.good.items ≡ numbers
  pub sources : length block.words.items ≡ source_count net
  pub were : WereGood net block.words.items block.good.items changed

-- the block has the same words, and zeros after the good ones up to this number
pub record IsGrown (numbers : ℕ) (old block : Block) : Type 0 where
  pub words : block.words.items ≡ old.words.items
  pub good : block.good.items ≡ old.good.items ++ replicate (numbers - length old.good.items) 0

-- the node has its place, and what it reads stands before it
pub record Stands (net : Net) (order places : List ℕ) (y : ℕ) : Type 0 where
  pub placed : slice_get order (slice_index places y) ≡ Some y
  pub before : (p d : ℕ) → Reads net y p d → slice_index places d < slice_index places y

-- in each lane the node has the value of its function of what it reads
abbrev pub IsRightAt : Net → List ℕ → List ℕ → ℕ → Type 0
IsRightAt net words good x = (i : ℕ) → i < 64 → lane_values good i x ≡ node_value (node_at net x) (assignment words i x) (map (lane_values good i) (drivers_of net x))

-- the first of these numbers are pending where they are live, and have the word 0 where they are dead
pub record AreTouched (net : Net) (order places changed old good pending : List ℕ) (n : ℕ) : Type 0 where
  pub words : (x : ℕ) → (slice_index good x ≡ slice_index old x) ⊎ ((node_at net x ≡ None) × (slice_index good x ≡ 0))
  pub live : (k x : ℕ) → k < n → slice_get changed k ≡ Some x → node_at net x ≢ None → IsPending pending (slice_index places x)
  pub dead : (k x : ℕ) → k < n → slice_get changed k ≡ Some x → node_at net x ≡ None → slice_index good x ≡ 0
  pub past : (k : ℕ) → length order ≤ k → IsIdle pending k

-- no place before this one is pending, and a node whose place isn't pending is right
pub record IsRereading (net : Net) (words order good pending : List ℕ) (at : ℕ) : Type 0 where
  pub read : (k : ℕ) → k < at → IsIdle pending k
  pub past : (k : ℕ) → length order ≤ k → IsIdle pending k
  pub right : (k x : ℕ) → slice_get order k ≡ Some x → IsIdle pending k → IsRightAt net words good x
