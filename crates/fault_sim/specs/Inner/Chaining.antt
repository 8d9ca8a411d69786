-- What passes to the only reader of a node.
use Rattle.std.specs.Prelude.{List, bit_xor, if◌then◌else◌, map, nat_eq, slice_index, ℕ}
use Rattle.gate_net.specs.Net.{Net, drivers_of, node_at}
use Rattle.fault_sim.specs.Inner.Words.{node_word}
use Rattle.fault_sim.specs.Words.{all_ones, assigned_word}

-- these values, but b at one node
abbrev pub replaced : {A : Type 0} → (ℕ → A) → ℕ → A → ℕ → A
replaced f x b d = if nat_eq d x then b else f d

-- the word of y where x has the opposite of its good word
abbrev pub passed_word : Net → List ℕ → List ℕ → ℕ → ℕ → ℕ
passed_word net words good x y = node_word (node_at net y) (assigned_word words y) (map (replaced (slice_index good) x (bit_xor (slice_index good x) all_ones)) (drivers_of net y))
