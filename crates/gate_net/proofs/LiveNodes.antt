-- Which nodes are live.
use Rattle.std.proofs.Common.{None, Option, Some, refl, ℕ, ◌≡◌, ◌≢◌}
use Rattle.gate_net.specs.Net.{IsLive, Net, Node, node_at}

pub node_live : (net : Net) (x : ℕ) → node_at net x ≢ None → IsLive net x
node_live net x live = at (node_at net x) refl
  where
    at : (o : Option Node) → node_at net x ≡ o → IsLive net x
    at None is = absurd (live is)
    at (Some n) is = (n.kind, (n.drivers, is))
