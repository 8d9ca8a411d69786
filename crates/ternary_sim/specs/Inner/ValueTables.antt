-- Beside ValueTables.antt: what only private contracts, invariants and laws speak of.
use Rattle.std.specs.Prelude.{Bool, IsTrue, List, [], false, if◌then◌else◌, not, slice_index_or, ℕ, ◌&&◌, ◌+◌, ◌∷◌}
use Rattle.gate_graph.specs.Search.{IsSeen}
use Rattle.gate_net.specs.Forward.{both_known_different}
use Rattle.ternary_sim.specs.Marks.{mark_at}
use Rattle.ternary_sim.specs.declared.marks.NodeMarks.{NodeMarks}
use Rattle.ternary_sim.specs.ValueTables.{TableState}

abbrev pub is_different : NodeMarks → Bool
is_different m = both_known_different m.good m.faulty

abbrev pub is_open : NodeMarks → Bool
is_open m = not m.equal

abbrev pub watched_at : List Bool → ℕ → Bool
watched_at watched x = slice_index_or watched x false

abbrev pub one_if : Bool → ℕ
one_if b = if b then 1 else 0

-- how many watched numbers have marks that pass
abbrev pub watched_count : (NodeMarks → Bool) → List Bool → List NodeMarks → ℕ
watched_count test [] marks = 0
watched_count test (w ∷ watched) [] = 0
watched_count test (w ∷ watched) (m ∷ marks) = one_if (w && test m) + watched_count test watched marks

-- some watched node has known and different values
abbrev pub SomeDiffers : TableState → Type 0
SomeDiffers s = (x : ℕ) × (IsSeen s.watched x × IsTrue (is_different (mark_at s.marks x)))

-- every watched node is marked equal
abbrev pub AllEqual : TableState → Type 0
AllEqual s = (x : ℕ) → IsSeen s.watched x → IsTrue (mark_at s.marks x).equal
