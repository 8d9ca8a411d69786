-- The part of a net that a fault concerns, and readings that are right there.
use Rattle.std.specs.Prelude.{Bool, List, Option, true, ℕ, ◌≡◌, ◌≤◌, ◌⊎◌, ◌↔◌}
use Rattle.gate_graph.specs.Search.{IsSeen}
use Rattle.gate_net.specs.Forward.{AgreeOn, IsForwardReading, Marking, MarksDetected, MarksQuiet}
use Rattle.gate_net.specs.Net.{IsAcyclic, Net}
use Rattle.gate_net.specs.Paths.{Reaches}
use Rattle.local_evaluation.specs.Reaching.{Matters}
use Rattle.local_evaluation.specs.Reaching.{search_left}
use Rattle.rm_base.specs.declared.numbers.Fault.{Fault}
use Rattle.ternary_sim.specs.Marks.{IsReadAt, good_at, mark_at, marking}
use Rattle.ternary_sim.specs.declared.marks.NodeMarks.{NodeMarks}

-- the fault of the gate may change the node
abbrev pub IsTouched : Net → ℕ → ℕ → Type 0
IsTouched net gate x = (x ≡ gate) ⊎ Reaches net gate x

-- the fault may change the node, or a path leads from it to one that the fault may change
abbrev pub IsConcerned : Net → Fault → ℕ → Type 0
IsConcerned net fault x = IsTouched net fault.gate.0 x ⊎ Matters net fault x

-- exactly the nodes that the fault concerns are marked
pub record MarksRegion (net : Net) (fault : Fault) (region : List Bool) : Type 0 where
  pub sound : (y : ℕ) → IsSeen region y → IsConcerned net fault y
  pub all : (y : ℕ) → IsConcerned net fault y → IsSeen region y

-- the node is marked equal, and its good and faulty values are both unknown or known to be the same
pub record IsPlain (m : NodeMarks) : Type 0 where
  pub same : m.faulty ≡ m.good
  pub equal : m.equal ≡ true

-- the marks of each node that the fault concerns are what its own conditions say of it, a source having what they say of
-- it, and every other node is plain
abbrev pub IsCurrent : Net → Fault → List NodeMarks → Type 0
IsCurrent net fault marks =
    (x : ℕ) → (IsConcerned net fault x × IsReadAt net fault (good_at marks) (marking marks) x (mark_at marks x)) ⊎ ((IsConcerned net fault x → ⊥) × IsPlain (mark_at marks x))

-- there is a forward reading of the whole net, whatever is known of the sources
abbrev pub ReadingsExist : Type 0
ReadingsExist =
    (net : Net) (fault : Fault) → IsAcyclic net → (known : ℕ → Option Bool) → (m : Marking) × IsForwardReading net fault known m

-- the forward reading of the whole net from what the marks say of the sources: it says the same of each node that the fault
-- concerns, and whether a test was found and whether all is quiet
pub record IsWhole (net : Net) (fault : Fault) (marks : List NodeMarks) (m : Marking) : Type 0 where
  pub reading : IsForwardReading net fault (good_at marks) m
  pub agree : (x : ℕ) → IsConcerned net fault x → AgreeOn (marking marks) m x
  pub detected : MarksDetected net (marking marks) ↔ MarksDetected net m
  pub quiet : MarksQuiet net (marking marks) ↔ MarksQuiet net m

-- a reading of what the fault concerns decides as one of the whole net does
abbrev pub RegionsDecide : Type 0
RegionsDecide =
    (net : Net) (fault : Fault) → IsAcyclic net → (marks : List NodeMarks) → IsCurrent net fault marks → (m : Marking) × IsWhole net fault marks m

-- MARKING
-- more numbers were marked: all of a kind, and no others; the new ones were listed
pub record MarksMore (kind : ℕ → Type 0) (marks marks' listed listed' : List Bool) : Type 0 where
  pub kept : (z : ℕ) → IsSeen marks z → IsSeen marks' z
  pub kept_listed : (z : ℕ) → IsSeen listed z → IsSeen listed' z
  pub all : (z : ℕ) → kind z → IsSeen marks' z
  pub new : (z : ℕ) → IsSeen marks' z → IsSeen marks z ⊎ (kind z × IsSeen listed' z)
  pub new_listed : (z : ℕ) → IsSeen listed' z → IsSeen listed z ⊎ IsSeen marks' z
  pub less : search_left marks' listed' ≤ search_left marks listed
