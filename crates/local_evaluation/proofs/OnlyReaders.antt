-- The only gate that reads a node.
use Rattle.std.proofs.Common.{None, Option, Some, ℕ}
use Rattle.gate_net.specs.Net.{IsObserved, Net}
use Rattle.local_evaluation.specs.Chains.{IsNextInChain}
use Rattle.local_evaluation.specs.Inner.Chains.{IsOnlyReaderFound}
use Rattle.rm_base.specs.declared.numbers.NodeId.{NodeId}

pub next_found : (net : Net) (x : ℕ) (o : Option NodeId) → IsOnlyReaderFound net x o → (IsObserved net x → ⊥) → IsNextInChain net x o
next_found net x None none unobserved = λ y goes. none y goes.only
next_found net x (Some y) only unobserved = record { unobserved = unobserved; only = only }
