-- The miter of two nets over the same sources: one net that is observed at one node, which is 1 where the two nets agree at every
-- observed place (Brand, Verification of large synthesized designs, ICCAD 1993).
use Rattle.std.specs.Prelude.{List, Some, [], false, length, map, suc, ℕ, ◌++◌, ◌+◌, ◌∷◌}
use Rattle.gate_net.specs.declared.Kind.TheVariants.{Not, Or}
use Rattle.gate_net.specs.Faults.{fault_at}
use Rattle.gate_net.specs.Net.{Net, Node}
use Rattle.rm_base.specs.declared.numbers.Fault.{Fault}
use Rattle.joined_nets.specs.Growing.{and_gate}
use Rattle.joined_nets.specs.Joined.{both, observed_moved}

abbrev pub not_gate : ℕ → Node
not_gate x = record { kind = Not; drivers = x ∷ [] }

abbrev pub or_gate : List ℕ → Node
or_gate xs = record { kind = Or; drivers = xs }

-- five gates for each place, numbered from `next` on: the last of them is 1 where the nodes there differ
abbrev pub comparisons : ℕ → List ℕ → List ℕ → List Node
comparisons next (x ∷ xs) (y ∷ ys) =
    not_gate x ∷ not_gate y ∷ and_gate x (suc next) ∷ and_gate next y ∷ or_gate (suc (suc next) ∷ suc (suc (suc next)) ∷ [])
    ∷ comparisons (suc (suc (suc (suc (suc next))))) xs ys
comparisons next [] ys = []
comparisons next (x ∷ xs) [] = []

-- the last gates of these groups
abbrev pub differences : ℕ → List ℕ → List ℕ → List ℕ
differences next (x ∷ xs) (y ∷ ys) = suc (suc (suc (suc next))) ∷ differences (suc (suc (suc (suc (suc next))))) xs ys
differences next [] ys = []
differences next (x ∷ xs) [] = []

abbrev pub compared : Net → Net → List Node
compared one two = comparisons (length (both one two)) one.observed (observed_moved one two)

-- the Or over all places
abbrev pub some_difference : Net → Net → ℕ
some_difference one two = length (both one two) + length (compared one two)

-- the first net with its numbers, the gates of the second on the next ones, the comparisons, an Or of them, and its Not, which
-- alone is observed
abbrev pub miter_of : Net → Net → Net
miter_of one two = record {
  nodes = both one two
      ++ map (λ (n : Node). Some n) (compared one two ++ or_gate (differences (length (both one two)) one.observed (observed_moved one two)) ∷ not_gate (some_difference one two) ∷ []);
  observed = suc (some_difference one two) ∷ [];
}

-- the pin of that Not is stuck at 0
abbrev pub miter_fault : Net → Net → Fault
miter_fault one two = fault_at (suc (some_difference one two)) 0 false
