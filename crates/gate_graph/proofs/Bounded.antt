-- The greatest live number.
use Rattle.std.proofs.Common.{◌≡◌, ◌≢◌, ℕ, zero, suc, ◌+◌, ◌<◌, ◌≤◌, List, [], ◌∷◌, length, Option, Some, None, refl, ap, arith, inl, inr}
use Rattle.std.specs.Prelude.{slice_get}
use Rattle.std.proofs.lemmas.Bool.{cases_lt}
use Rattle.std.proofs.lemmas.Option.{slice_get_past}
use Rattle.std.proofs.lemmas.List.{get_or_past}
use Rattle.gate_net.specs.Net.{Node, Net, node_at, flatten_option, trimmed}
use Rattle.gate_graph.specs.Wirings.{kind_at}
use Rattle.gate_graph.specs.Circuit.{Circuit, net_of}
use Rattle.gate_graph.proofs.NetOf.{nodes-trimmed, rest-trimmed}
use Rattle.gate_graph.proofs.Formed.{live-node, dead-node}

-- the last node of a canonical list is live
last-is : (xs : List (Option Node)) (n : ℕ) → trimmed xs ≡ xs → length xs ≡ suc n → flatten_option (slice_get xs n) ≢ None
last-is [] n t e = absurd (omega arith)
last-is (None ∷ []) n t e = let wrong : [] ≡ None ∷ [] = t in cc
last-is (Some x ∷ []) zero t e = λ is. cc
last-is (Some x ∷ []) (suc n) t e = absurd (omega arith)
last-is (x ∷ y ∷ ys) zero t e = absurd (omega arith)
last-is (x ∷ y ∷ ys) (suc n) t e = last-is (y ∷ ys) n (rest-trimmed x (trimmed (y ∷ ys)) (y ∷ ys) t) (omega (arith, e))

pub live-below : (net : Net) (x : ℕ) → node_at net x ≢ None → x < length net.nodes
live-below net x live = elim (cases_lt x (length net.nodes)) [
  | inl below ↦ below
  | inr past ↦ absurd (live (ap flatten_option (slice_get_past net.nodes x past)))
]

-- numbers from the bound on are dead
no-more : (v : Circuit) (b : ℕ) → ((m : ℕ) → b ≤ m → kind_at v.kinds m ≡ None) → length (net_of v).nodes ≤ b
no-more v b dead = elim (cases_lt b (length (net_of v).nodes)) [
  | inr le ↦ le
  | inl lt ↦ absurd (by (length (net_of v).nodes) refl lt)
]
  where
    by : (n : ℕ) → length (net_of v).nodes ≡ n → b < n → ⊥
    by zero e h = absurd (omega arith)
    by (suc n) e h = last-is (net_of v).nodes n (nodes-trimmed v) e (dead-node v n (dead n (omega arith)))

pub bound-is : (v : Circuit) (b : ℕ) → ((m : ℕ) → b ≤ m → kind_at v.kinds m ≡ None) → ((m : ℕ) → m + 1 ≡ b → kind_at v.kinds m ≢ None) → 0 < b → b ≡ length (net_of v).nodes
bound-is v zero dead last some = absurd (omega arith)
bound-is v (suc n) dead last some =
    omega (arith, no-more v (suc n) dead, live-below (net_of v) n (live-node v n (last n (omega arith))))

pub bound-within : (v : Circuit) → length (net_of v).nodes ≤ length v.kinds
bound-within v = no-more v (length v.kinds) (λ m h. get_or_past v.kinds m None h)
