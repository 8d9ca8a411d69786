-- How another word of a node spreads through the order of the nodes.
use Rattle.std.specs.Prelude.{IsTrue, bit_xor, List, None, Option, Some, if◌then◌else◌, length, map, nat_eq, slice_get, slice_index, slice_set, ℕ, ◌<◌, ◌≡◌, ◌≢◌, ◌≤◌, ◌⊎◌}
use Rattle.gate_net.specs.Net.{IsObserved, Net, Reads, drivers_of, node_at}
use Rattle.gate_net.specs.Values.{node_value}
use Rattle.rm_base.specs.declared.numbers.Fault.{Fault}
use Rattle.fault_sim.specs.Pending.{IsIdle, IsPending}
use Rattle.fault_sim.specs.Inner.Pending.{HasRoom, IsUnmarked}
use Rattle.fault_sim.specs.Simulating.{AreNoOthers}
use Rattle.fault_sim.specs.Words.{assigned_word, assignment, lane}
use Rattle.fault_sim.specs.Inner.Words.{node_word, word_of}
use Rattle.fault_sim.specs.declared.reading.StuckWord.{StuckWord}
use Rattle.fault_sim.specs.declared.spread.Spread.{Spread}

-- the words that a gate reads where one pin is stuck
abbrev pub stuck_reads : Option StuckWord → List ℕ → List ℕ
stuck_reads None ws = ws
stuck_reads (Some s) ws = slice_set ws s.position s.word

-- what is read at a pin, which may be the stuck one
abbrev pub pin_word : Option StuckWord → ℕ → ℕ → ℕ
pin_word None q w = w
pin_word (Some s) q w = if nat_eq q s.position then s.word else w

-- the stuck pin
abbrev pub stuck_word : Fault → StuckWord
stuck_word fault = record { position = fault.position; word = word_of fault.value }

-- the word of the fault's gate, which reads the good words but at its stuck pin
abbrev pub IsStuckWord : Net → Fault → List ℕ → List ℕ → ℕ → Type 0
IsStuckWord net fault words good w =
    w ≡ node_word (node_at net fault.gate.0) (assigned_word words fault.gate.0) (stuck_reads (Some (stuck_word fault)) (map (slice_index good) (drivers_of net fault.gate.0)))

-- there is a stamp and a faulty word for each number
pub record IsSized (numbers : ℕ) (s : Spread) : Type 0 where
  pub stamps : length s.stamps.items ≡ numbers
  pub faulty : length s.faulty.items ≡ numbers

-- nothing is stamped or pending, and the present stamp is no number's default
pub record IsRested (s : Spread) : Type 0 where
  pub positive : 0 < s.stamp
  pub stamps : (x : ℕ) → slice_index s.stamps.items x < s.stamp
  pub idle : (k : ℕ) → IsIdle s.pending.items k

-- nothing is stamped, whatever is pending
pub record IsUnstamped (s : Spread) : Type 0 where
  pub positive : 0 < s.stamp
  pub stamps : (x : ℕ) → slice_index s.stamps.items x < s.stamp

-- the word where its stamp is the present one, and else the good one
abbrev pub spread_word : List ℕ → Spread → ℕ → ℕ
spread_word good s x = if nat_eq (slice_index s.stamps.items x) s.stamp then slice_index s.faulty.items x else slice_index good x

-- the number has that faulty word and the place isn't pending, and nothing else changed
pub record IsWritten (s t : Spread) (place number word : ℕ) : Type 0 where
  pub stamp : t.stamp ≡ s.stamp
  pub stamps : t.stamps.items ≡ slice_set s.stamps.items number s.stamp
  pub faulty : t.faulty.items ≡ slice_set s.faulty.items number word
  pub pending : IsUnmarked s.pending.items t.pending.items place

-- nothing is stamped with a number above the present one
pub record IsStamped (s : Spread) : Type 0 where
  pub positive : 0 < s.stamp
  pub stamps : (x : ℕ) → slice_index s.stamps.items x ≤ s.stamp

-- a reader of the node has this place
abbrev pub IsReaderAt : Net → ℕ → List ℕ → ℕ → Type 0
IsReaderAt net x places k = (z : ℕ) × ((p : ℕ) × (Reads net z p x × (slice_index places z ≡ k)))

-- the readers of the node are pending, and what was pending still is
pub record MarksReaders (net : Net) (x : ℕ) (places old new : List ℕ) : Type 0 where
  pub size : length new ≡ length old
  pub kept : (k : ℕ) → IsPending old k → IsPending new k
  pub readers : (z p : ℕ) → Reads net z p x → IsPending new (slice_index places z)
  pub only : (k : ℕ) → IsPending new k → IsPending old k ⊎ IsReaderAt net x places k

-- the lanes in which the words differ where the node is observed, and else none
abbrev pub IsSeenAt : Net → ℕ → ℕ → ℕ → ℕ → Type 0
IsSeenAt net x good faulty seen = (IsObserved net x × (seen ≡ bit_xor good faulty)) ⊎ ((IsObserved net x → ⊥) × (seen ≡ 0))

-- in the lane the node's word is that of its function of what it reads
abbrev pub IsRightIn : Net → List ℕ → (ℕ → ℕ) → ℕ → ℕ → Type 0
IsRightIn net words f i x = lane i (f x) ≡ node_value (node_at net x) (assignment words i x) (map (λ y. lane i (f y)) (drivers_of net x))

-- in the lane the two words of the node differ
abbrev pub DiffersIn : List ℕ → (ℕ → ℕ) → ℕ → ℕ → Type 0
DiffersIn good f i x = lane i (f x) ≢ lane i (slice_index good x)

-- what the numbers of lanes have in common
pub record AreLanes (order places good : List ℕ) (spread : Spread) : Type 0 where
  pub within : (k x : ℕ) → slice_get order k ≡ Some x → x < length good
  pub others : AreNoOthers order good
  pub places_are : (k x : ℕ) → slice_get order k ≡ Some x → slice_index places x ≡ k
  pub numbers : length places ≡ length good
  pub sized : IsSized (length good) spread
  pub room : HasRoom spread.pending.items (length order)

-- the root's word has spread through the places before this one, and `found` has the lanes in which an observed node differs
pub record IsSpread (net : Net) (root word : ℕ) (words order good : List ℕ) (spread : Spread) (at found : ℕ) : Type 0 where
  pub stamped : IsStamped spread
  pub sized : IsSized (length good) spread
  pub room : HasRoom spread.pending.items (length order)
  pub read : (k : ℕ) → k < at → IsIdle spread.pending.items k
  pub past : (k : ℕ) → length order ≤ k → IsIdle spread.pending.items k
  pub there : spread_word good spread root ≡ word
  pub behind : (k : ℕ) → at ≤ k → slice_get order k ≡ Some root → ⊥
  pub right : (k x : ℕ) → k < at → slice_get order k ≡ Some x → x ≢ root → (i : ℕ) → i < 64 → IsRightIn net words (spread_word good spread) i x
  pub ahead : (k x : ℕ) → at ≤ k → slice_get order k ≡ Some x → spread_word good spread x ≡ slice_index good x
  pub others : (x : ℕ) → ((k : ℕ) → slice_get order k ≡ Some x → ⊥) → spread_word good spread x ≡ slice_index good x
  pub quiet : (k y : ℕ) → at ≤ k → slice_get order k ≡ Some y → IsIdle spread.pending.items k → (p d : ℕ) → Reads net y p d → spread_word good spread d ≡ slice_index good d
  pub sound : (i : ℕ) → i < 64 → IsTrue (lane i found) → (x : ℕ) × (IsObserved net x × DiffersIn good (spread_word good spread) i x)
  pub complete : (k x : ℕ) → k < at → slice_get order k ≡ Some x → IsObserved net x → (i : ℕ) → i < 64 → DiffersIn good (spread_word good spread) i x → IsTrue (lane i found)
