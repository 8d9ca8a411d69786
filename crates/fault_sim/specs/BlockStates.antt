-- What a contract sees of blocks of 64 vectors.
use Rattle.std.specs.Prelude.{Bool, List, None, Option, Some, [], length, slice_index_or, ℕ, ◌%◌, ◌*◌, ◌/◌, ◌<◌, ◌≡◌}
use Rattle.fault_sim.specs.Ordered.{IsOrdered}
use Rattle.gate_net.specs.Net.{Net, source_count}
use Rattle.gate_net.specs.Values.{AreGoodValues, Detects}
use Rattle.rm_base.specs.declared.numbers.Fault.{Fault}
use Rattle.fault_sim.specs.Simulating.{AreNoOthers}
use Rattle.fault_sim.specs.Words.{assignment, lane_values}
use Rattle.fault_sim.specs.declared.blocks.Block.{Block}

-- the words of the sources of each block, the order of the nodes, and the good words of each block by node number
pub record BlockState : Type 0 where
  pub words : List (List ℕ)
  pub order : List ℕ
  pub good : List (List ℕ)

abbrev pub words_at : List (List ℕ) → ℕ → List ℕ
words_at blocks b = slice_index_or blocks b []

-- the vector of a number, 64 to a block
abbrev pub vector_of : List (List ℕ) → ℕ → ℕ → Bool
vector_of words n = assignment (words_at words (n / 64)) (n % 64)

-- some vector of the block detects the fault
abbrev pub DetectsInBlock : Net → Fault → List (List ℕ) → ℕ → Type 0
DetectsInBlock net fault words b = (i : ℕ) × ((i < 64) × Detects net fault (assignment (words_at words b) i))

-- the first vector that detects the fault, or none does
abbrev pub IsFirstVector : Net → Fault → List (List ℕ) → Option ℕ → Type 0
IsFirstVector net fault words None = (n : ℕ) → n < 64 * length words → Detects net fault (vector_of words n) → ⊥
IsFirstVector net fault words (Some n) = (n < 64 * length words) × (Detects net fault (vector_of words n) × ((m : ℕ) → m < n → Detects net fault (vector_of words m) → ⊥))

-- in each lane of the block the good words are the good values of the net
abbrev pub AreGoodWords : Net → List ℕ → List ℕ → Type 0
AreGoodWords net words good = (i : ℕ) → i < 64 → AreGoodValues net (assignment words i) (lane_values good i)

-- the blocks are simulated on the net, and the order is one of it
pub record AreSimulated (s : BlockState) (net : Net) : Type 0 where
  pub order : IsOrdered net s.order
  pub sources : (b : ℕ) → b < length s.words → length (words_at s.words b) ≡ source_count net
  pub values : (b : ℕ) → b < length s.words → AreGoodWords net (words_at s.words b) (words_at s.good b)

-- there is a good word for each number, and 0 for those that the order doesn't list
pub record IsBlock (order : List ℕ) (numbers : ℕ) (good : List ℕ) : Type 0 where
  pub size : length good ≡ numbers
  pub others : AreNoOthers order good

-- the block is simulated on the net
pub record IsSimulatedBlock (net : Net) (order : List ℕ) (numbers : ℕ) (block : Block) : Type 0 where
  pub good : IsBlock order numbers block.good.items
  pub sources : length block.words.items ≡ source_count net
  pub values : AreGoodWords net block.words.items block.good.items
