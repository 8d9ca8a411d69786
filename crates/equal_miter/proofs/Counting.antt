-- A miter has the sources of its nets.
use Rattle.std.proofs.Common.{List, [], length, map, refl, suc, ℕ, ◌++◌, ◌∷◌, ◌≡◌}
use Rattle.std.specs.Prelude.{Some}
use Rattle.gate_net.specs.Net.{Net, Node, source_count}
use Rattle.joined_nets.specs.Growing.{sources_in}
use Rattle.joined_nets.specs.Joined.{both, observed_moved}
use Rattle.joined_nets.proofs.Public.{joined_sources}
use Rattle.equal_miter.specs.Laws.{AreAlike}
use Rattle.equal_miter.specs.Miter.{compared, comparisons, differences, miter_of, not_gate, or_gate, some_difference}
use Rattle.equal_miter.proofs.Sharing.{shared}

gates_only : (next : ℕ) (xs ys : List ℕ) (rest : List Node) → sources_in (map (λ (n : Node). Some n) rest) ≡ 0 → sources_in (map (λ (n : Node). Some n) (comparisons next xs ys ++ rest)) ≡ 0
gates_only next [] ys rest h = h
gates_only next (x ∷ xs) [] rest h = h
gates_only next (x ∷ xs) (y ∷ ys) rest h = gates_only (suc (suc (suc (suc (suc next))))) xs ys rest h

pub miter_sources : (one two : Net) → AreAlike one two → source_count (miter_of one two) ≡ source_count one
miter_sources one two alike =
    let last : List Node = or_gate (differences (length (both one two)) one.observed (observed_moved one two)) ∷ not_gate (some_difference one two) ∷ [] in
    joined_sources one two (miter_of one two) (map (λ (n : Node). Some n) (compared one two ++ last)) (shared one two alike) refl (gates_only (length (both one two)) one.observed (observed_moved one two) last refl)
