-- A node whose kind is known.
use Rattle.std.proofs.Common.{◌≡◌, ℕ, Option, Some, None, refl, sym, ap, ◌∙◌}
use Rattle.gate_net.specs.declared.Kind.{Kind}
use Rattle.gate_net.specs.Net.{Net, Node, node_at, kind_in, kind_of, IsKind}

pub kind-known : (net : Net) (x : ℕ) (k : Kind) (o : Option Kind) → o ≡ kind_of net x → o ≡ Some k → IsKind net x k
kind-known net x k o e is = go (node_at net x) refl (sym e ∙ is)
  where
    go : (n : Option Node) → node_at net x ≡ n → kind_in n ≡ Some k → IsKind net x k
    go None here h = cc
    go (Some n) here h = (n.drivers, here ∙ ap (λ (j : Kind). let m : Node = record { kind = j; drivers = n.drivers } in Some m) (let same : n.kind ≡ k = cc in same))
