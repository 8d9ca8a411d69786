-- Nodes after an edit.
use Rattle.std.proofs.Common.{Bool, List, None, Option, Some, ap, inl, inr, refl, sym, ℕ, ◌∙◌, ◌≡◌, ◌≢◌}
use Rattle.std.specs.Prelude.{slice_get, slice_set}
use Rattle.gate_net.specs.Edits.{redriven, with_drivers, with_node}
use Rattle.gate_net.specs.Net.{Net, Node, drivers_in, flatten_option, node_at}
use Rattle.gate_net.specs.Values.{IsRun, IsUndetected, SameObserved}
use Rattle.rm_base.specs.declared.numbers.Fault.{Fault}
use Rattle.rm_base.proofs.Public.{bool_cases, never_opposite, set_other, set_there}

pub flatten_some : (o : Option (Option Node)) (n : Node) → flatten_option o ≡ Some n → o ≡ Some (Some n)
flatten_some None n e = cc
flatten_some (Some o) n e = ap Some e

pub node_at-other : (net : Net) (gate : ℕ) (drivers : List ℕ) (x : ℕ) → x ≢ gate → node_at (with_drivers net gate drivers) x ≡ node_at net x
node_at-other net gate drivers x ne = ap flatten_option (set_other net.nodes gate x _ ne)

pub node_at-there : (net : Net) (gate : ℕ) (drivers : List ℕ) (n : Node) → node_at net gate ≡ Some n → node_at (with_drivers net gate drivers) gate ≡ Some (record n { drivers = drivers })
node_at-there net gate drivers n e = rw e (ap flatten_option (set_there net.nodes gate (Some n) (Some (record n { drivers = drivers })) (flatten_some (slice_get net.nodes gate) n e)))

pub with_node-other : (net : Net) (gate : ℕ) (node : Node) (x : ℕ) → x ≢ gate → node_at (with_node net gate node) x ≡ node_at net x
with_node-other net gate node x ne = ap flatten_option (set_other net.nodes gate x _ ne)

pub with_node-there : (net : Net) (gate : ℕ) (node n : Node) → node_at net gate ≡ Some n → node_at (with_node net gate node) gate ≡ Some node
with_node-there net gate node n e = ap flatten_option (set_there net.nodes gate (Some n) (Some node) (flatten_some (slice_get net.nodes gate) n e))

-- other drivers make another node
pub redriven_node : (net : Net) (gate : ℕ) (drivers : List ℕ) (n : Node) → node_at net gate ≡ Some n → with_drivers net gate drivers ≡ with_node net gate (record n { drivers = drivers })
redriven_node net gate drivers n e = ap (λ o. record net { nodes = slice_set net.nodes gate (redriven drivers o) }) e

pub live_reader : (o : Option Node) (p x : ℕ) → slice_get (drivers_in o) p ≡ Some x → (n : Node) × (o ≡ Some n)
live_reader None p x e = cc
live_reader (Some n) p x e = (n, refl)

pub undetected_same : (net : Net) (fault : Fault) → IsUndetected net fault → (a v f : ℕ → Bool) → IsRun net fault a v f → SameObserved net v f
undetected_same net fault undetected a v f run x observed = elim (bool_cases (v x) (f x)) [
  | inl same ↦ same
  | inr other ↦ absurd (undetected a (v, (f, (run, (x, (observed, λ same. never_opposite (f x) (sym same ∙ other)))))))
]
