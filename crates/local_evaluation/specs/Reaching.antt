-- Marking what is reached from a gate.
use Rattle.std.specs.Prelude.{Bool, List, ℕ, ◌*◌, ◌+◌, ◌≤◌, ◌⊎◌}
use Rattle.gate_graph.specs.Search.{IsSeen, unseen}
use Rattle.gate_net.specs.Net.{Net, Reads}
use Rattle.gate_net.specs.Paths.{Reaches}
use Rattle.rm_base.specs.declared.numbers.Fault.{Fault}
use Rattle.local_evaluation.specs.Worklists.{seen_count}

-- a path leads from the node to the faulty gate, or to a node that the faulty gate reaches
abbrev pub Matters : Net → Fault → ℕ → Type 0
Matters net fault x = Reaches net x fault.gate.0 ⊎ ((y : ℕ) × (Reaches net x y × Reaches net fault.gate.0 y))

-- exactly the nodes that are reached from the gate are marked
pub record MarksReached (net : Net) (gate : ℕ) (reached : List Bool) : Type 0 where
  pub sound : (y : ℕ) → IsSeen reached y → Reaches net gate y
  pub all : (y : ℕ) → Reaches net gate y → IsSeen reached y

-- how much of a search is left at most
abbrev pub search_left : List Bool → List Bool → ℕ
search_left reached listed = 2 * unseen reached + seen_count listed

-- the readers of the node were marked, and the new ones were listed
pub record MarksReaders (net : Net) (x : ℕ) (reached reached' listed listed' : List Bool) : Type 0 where
  pub kept : (z : ℕ) → IsSeen reached z → IsSeen reached' z
  pub kept_listed : (z : ℕ) → IsSeen listed z → IsSeen listed' z
  pub all : (z p : ℕ) → Reads net z p x → IsSeen reached' z
  pub new : (z : ℕ) → IsSeen reached' z → IsSeen reached z ⊎ (((p : ℕ) × Reads net z p x) × IsSeen listed' z)
  pub new_listed : (z : ℕ) → IsSeen listed' z → IsSeen listed z ⊎ IsSeen reached' z
  pub less : search_left reached' listed' ≤ search_left reached listed

-- some readers were marked so far, and the new ones were listed
pub record MarksSome (net : Net) (x : ℕ) (reached reached' listed listed' : List Bool) : Type 0 where
  pub kept : (z : ℕ) → IsSeen reached z → IsSeen reached' z
  pub kept_listed : (z : ℕ) → IsSeen listed z → IsSeen listed' z
  pub new : (z : ℕ) → IsSeen reached' z → IsSeen reached z ⊎ (((p : ℕ) × Reads net z p x) × IsSeen listed' z)
  pub new_listed : (z : ℕ) → IsSeen listed' z → IsSeen listed z ⊎ IsSeen reached' z
  pub less : search_left reached' listed' ≤ search_left reached listed

-- a search from the gate that has come this far: a marked node is listed, or its readers are marked
pub record Searches (net : Net) (gate : ℕ) (reached listed : List Bool) : Type 0 where
  pub sound : (y : ℕ) → IsSeen reached y → Reaches net gate y
  pub first : (z p : ℕ) → Reads net z p gate → IsSeen reached z
  pub done : (y : ℕ) → IsSeen reached y → IsSeen listed y ⊎ ((z p : ℕ) → Reads net z p y → IsSeen reached z)
  pub within : (y : ℕ) → IsSeen listed y → IsSeen reached y
