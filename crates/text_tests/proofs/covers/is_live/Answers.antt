use Rattle.std.proofs.Common.{◌≡◌, Option, Some, None, sym, ap, ◌∙◌, refl, ℕ}
use Rattle.gate_net.specs.declared.Kind.{Kind}
use Rattle.gate_net.specs.Net.{Net, Node, node_at, kind_in, kind_of, IsLive}
use Rattle.gate_graph.specs.Circuit.{net_of}
use Rattle.text_tests.proofs.covers.is_live.Goals as goal

live-known : (net : Net) (n : ℕ) (o : Option Kind) (k : Kind) → o ≡ kind_of net n → o ≡ Some k → IsLive net n
live-known net n o k e is = go (node_at net n) refl (sym e ∙ is)
  where
    go : (x : Option Node) → node_at net n ≡ x → kind_in x ≡ Some k → IsLive net n
    go None here h = cc
    go (Some m) here h = (m.kind, (m.drivers, here))

pub returns-in-Some : goal.returns-in-Some
returns-in-Some c e = live-known (net_of c.args.graph.now) c.args.node.0 c.kind.result _ c.kind.ensures c.in-Some.is
