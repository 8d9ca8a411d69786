-- Beside BlockStates.antt: what only private contracts, invariants and laws speak of.
use Rattle.std.specs.Prelude.{List, None, Option, Some, length, map, slice_get, slice_index, ℕ, ◌<◌, ◌≡◌}
use Rattle.gate_net.specs.Net.{Net}
use Rattle.gate_net.specs.Values.{Detects}
use Rattle.rm_base.specs.declared.numbers.Fault.{Fault}
use Rattle.fault_sim.specs.Inner.Pending.{HasRoom}
use Rattle.fault_sim.specs.Inner.Simulating.{IsWithin}
use Rattle.fault_sim.specs.Inner.Spreading.{IsRested, IsSized}
use Rattle.fault_sim.specs.Words.{assignment}
use Rattle.fault_sim.specs.declared.blocks.Block.{Block}
use Rattle.fault_sim.specs.declared.spread.Spread.{Spread}
use Rattle.fault_sim.specs.BlockStates.{IsBlock}

-- what all blocks have in common
pub record ArePlaced (order places : List ℕ) (spread : Spread) : Type 0 where
  pub within : IsWithin order (length places)
  pub places_are : (k x : ℕ) → slice_get order k ≡ Some x → slice_index places x ≡ k
  pub sized : IsSized (length places) spread
  pub room : HasRoom spread.pending.items (length order)
  pub rested : IsRested spread

abbrev pub words_of : List Block → List (List ℕ)
words_of blocks = map (λ (b : Block). b.words.items) blocks

abbrev pub good_of : List Block → List (List ℕ)
good_of blocks = map (λ (b : Block). b.good.items) blocks

-- each block is one for the order
abbrev pub AreBlocks : List ℕ → ℕ → List Block → Type 0
AreBlocks order numbers blocks = (b : ℕ) (block : Block) → slice_get blocks b ≡ Some block → IsBlock order numbers block.good.items

-- the first lane of the block whose vector detects the fault, or none does
abbrev pub IsFirstLane : Net → Fault → List ℕ → Option ℕ → Type 0
IsFirstLane net fault words None = (i : ℕ) → i < 64 → Detects net fault (assignment words i) → ⊥
IsFirstLane net fault words (Some i) = (i < 64) × (Detects net fault (assignment words i) × ((j : ℕ) → j < i → Detects net fault (assignment words j) → ⊥))
