-- The last gate of a miter, which alone is observed.
use Rattle.std.proofs.Common.{Bool, List, [], ap, arith, false, length, map, subst, suc, true, ℕ, ◌++◌, ◌+◌, ◌∙◌, ◌∷◌, ◌≡◌, refl}
use Rattle.std.specs.Prelude.{Option, Some, slice_get, slice_set}
use Rattle.gate_net.specs.Net.{IsObserved, Net, Node, drivers_in, drivers_of, flatten_option, node_at}
use Rattle.gate_net.specs.Values.{AreFaultyValues, HasPin, faulty_reads, node_value}
use Rattle.gate_net.proofs.Public.{reads_there}
use Rattle.rm_base.proofs.Public.{map_at, only_stands}
use Rattle.equal_miter.specs.Miter.{compared, differences, miter_fault, miter_of, not_gate, or_gate, some_difference}
use Rattle.joined_nets.specs.Joined.{both, observed_moved}

back_at : {A : Type 0} (xs ys : List A) (k : ℕ) (o : A) → slice_get ys k ≡ Some o → slice_get (xs ++ ys) (length xs + k) ≡ Some o
back_at [] ys k o e = let same : 0 + k ≡ k = omega arith in rw same e
back_at (x ∷ xs) ys k o e = let same : suc (length xs) + k ≡ suc (length xs + k) = omega arith in rw same (back_at xs ys k o e)

module _ (one two : Net) where
  abbrev last_nodes : List Node
  last_nodes = or_gate (differences (length (both one two)) one.observed (observed_moved one two)) ∷ not_gate (some_difference one two) ∷ []

  abbrev added : List Node
  added = compared one two ++ last_nodes

  added_at : (k : ℕ) (n : Node) → slice_get added k ≡ Some n → node_at (miter_of one two) (length (both one two) + k) ≡ Some n
  added_at k n e = ap (λ (o : Option (Option Node)). flatten_option o) (back_at (both one two) (map (λ (n : Node). Some n) added) k (Some n) (map_at (λ (n : Node). Some n) added k n e))

  last_at : node_at (miter_of one two) (suc (some_difference one two)) ≡ Some (not_gate (some_difference one two))
  last_at =
      let there : slice_get added (length (compared one two) + 1) ≡ Some (not_gate (some_difference one two)) = back_at (compared one two) last_nodes 1 (not_gate (some_difference one two)) refl in
      let same : length (both one two) + (length (compared one two) + 1) ≡ suc (length (both one two) + length (compared one two)) = omega arith in
      subst (λ (i : ℕ). node_at (miter_of one two) i ≡ Some (not_gate (some_difference one two))) same (added_at (length (compared one two) + 1) (not_gate (some_difference one two)) there)

  -- with the fault the Not is 1
  pub stuck : (a f : ℕ → Bool) → AreFaultyValues (miter_of one two) (miter_fault one two) a f → f (suc (some_difference one two)) ≡ true
  stuck a f bad =
      let drivers : drivers_of (miter_of one two) (suc (some_difference one two)) ≡ some_difference one two ∷ [] = ap (λ (o : Option Node). drivers_in o) last_at in
      let reads : faulty_reads (miter_of one two) (miter_fault one two) (λ b. b) f (suc (some_difference one two)) ≡ false ∷ [] =
      reads_there (miter_of one two) (miter_fault one two) (λ b. b) f ∙ ap (λ (l : List ℕ). slice_set (map f l) 0 false) drivers in
      bad (suc (some_difference one two))
      ∙ (ap (λ (l : List Bool). node_value (node_at (miter_of one two) (suc (some_difference one two))) (a (suc (some_difference one two))) l) reads
      ∙ ap (λ (o : Option Node). node_value o (a (suc (some_difference one two))) (false ∷ [])) last_at)

  pub observed_last : (x : ℕ) → IsObserved (miter_of one two) x → x ≡ suc (some_difference one two)
  observed_last x (k, e) = only_stands (suc (some_difference one two)) k x e

  pub fault_has_pin : HasPin (miter_of one two) (miter_fault one two)
  fault_has_pin = (some_difference one two, ap (λ (o : Option Node). slice_get (drivers_in o) 0) last_at)
