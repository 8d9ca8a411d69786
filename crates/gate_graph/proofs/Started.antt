-- The net of a new graph.
use Rattle.std.proofs.Common.{◌≡◌, ℕ, zero, suc, List, [], ◌∷◌, map, replicate, Option, Some, refl, ap, ◌∙◌, inl, inr}
use Rattle.std.specs.Prelude.{slice_get}
use Rattle.std.proofs.lemmas.Bool.{cases_eq, ne_eqb}
use Rattle.gate_net.specs.declared.Kind.{Kind}
use Rattle.gate_net.specs.declared.Kind.TheVariants.{Source, Zero, One}
use Rattle.gate_net.specs.Net.{Node, node_at, flatten_option, plain_node, trimmed, before_dead}
use Rattle.pin_pool.specs.Pins.{Pins, list_of}
use Rattle.pin_pool.specs.Rings.{Rings, rings_of, no_rings}
use Rattle.gate_graph.specs.Wirings.{kind_at}
use Rattle.gate_graph.specs.Circuit.{Circuit, net_of, node_with, gate_pins, home, fanouts_of, reader, without_observed}
use Rattle.gate_graph.specs.Start.{first_net}
use Rattle.gate_graph.proofs.NetOf.{net-ext}
use Rattle.gate_graph.proofs.Fresh.{first_kinds}

all-live : (n : ℕ) → trimmed (replicate n (plain_node Source)) ≡ replicate n (plain_node Source)
all-live zero = refl
all-live (suc n) = ap (before_dead (plain_node Source)) (all-live n)

source-nodes : (s n : ℕ) → node_with (kind_at (replicate s (Some Source)) n) [] ≡ flatten_option (slice_get (replicate s (plain_node Source)) n)
source-nodes zero n = refl
source-nodes (suc s) zero = refl
source-nodes (suc s) (suc n) = source-nodes s n

first-nodes : (s n : ℕ) → node_with (kind_at (first_kinds s) n) [] ≡ node_at (first_net s) n
first-nodes s zero = refl
first-nodes s (suc zero) = refl
first-nodes s (suc (suc n)) = source-nodes s n

no-pins : (v : Pins) → rings_of v ≡ no_rings → (n : ℕ) → list_of v.inputs n ≡ []
no-pins v e n = ap (λ (r : Rings). r.inputs n) e

no-gate_pins : (v : Pins) → rings_of v ≡ no_rings → (n : ℕ) → gate_pins v n ≡ []
no-gate_pins v e n = elim (cases_eq n 0) [
  | inl is ↦ rw is refl
  | inr ne ↦ rw (ne_eqb n 0 ne) (no-pins v e n)
]

pub net-started : (v : Circuit) (s : ℕ) → v.kinds ≡ first_kinds s → rings_of v.pool ≡ no_rings → net_of v ≡ first_net s
net-started v s ks e =
    net-ext v (first_net s) (ap (λ (l : List (Option Node)). plain_node Zero ∷ plain_node One ∷ l) (all-live s))
    (λ n. ap (λ (l : List ℕ). node_with (kind_at v.kinds n) (map (home v.pool.fanouts) l)) (no-gate_pins v.pool e n) ∙ ap (λ (l : List (Option Kind)). node_with (kind_at l n) []) ks ∙ first-nodes s n)
    (ap (map (home v.pool.fanouts)) (no-pins v.pool e 0))

pub fanouts-started : (v : Circuit) → rings_of v.pool ≡ no_rings → (n : ℕ) → fanouts_of v n ≡ []
unfolding fanouts_of
fanouts-started v e n =
    let none : list_of v.pool.fanouts n ≡ [] = ap (λ (r : Rings). r.fanouts n) e in
    ap (λ (l : List ℕ). map (reader v.pool) (without_observed (list_of v.pool.inputs 0) l)) none
