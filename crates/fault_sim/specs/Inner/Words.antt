-- Beside Words.antt: what only private contracts, invariants and laws speak of.
use Rattle.std.specs.List.{fold}
use Rattle.std.specs.Prelude.{Bool, List, None, Option, Some, bit_and, bit_or, bit_xor, false, if◌then◌else◌, not, true, ℕ}
use Rattle.gate_net.specs.Net.{Node}
use Rattle.gate_net.specs.Values.{family}
use Rattle.gate_net.specs.declared.Family.{Family}
use Rattle.gate_net.specs.declared.Family.TheVariants.{Constant, Input, Junction, Parity}
use Rattle.fault_sim.specs.Words.{all_ones}

-- the word that says the same in each lane
abbrev pub word_of : Bool → ℕ
word_of b = if b then all_ones else 0

-- of two words where one says so (true), or where both do (false)
abbrev pub join_word : Bool → ℕ → ℕ → ℕ
join_word true a b = bit_or a b
join_word false a b = bit_and a b

-- the word of a node that reads these words
abbrev pub family_word : Family → ℕ → List ℕ → ℕ
family_word Input assigned reads = assigned
family_word (Constant b) assigned reads = word_of b
family_word (Junction c) assigned reads = fold (join_word c) (word_of (not c)) reads
family_word (Parity i) assigned reads = fold bit_xor (word_of i) reads

abbrev pub node_word : Option Node → ℕ → List ℕ → ℕ
node_word None assigned reads = 0
node_word (Some n) assigned reads = family_word (family n.kind) assigned reads
