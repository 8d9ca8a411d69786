use Rattle.std.proofs.Common.{Some, ap, sym, ◌∙◌, ◌≡◌}
use Rattle.gate_graph.specs.Circuit.{net_of}
use Rattle.gate_net.specs.Net.{kind_of}
use Rattle.gate_net.specs.declared.Kind.{Kind}
use Rattle.gate_net.specs.declared.Kind.TheVariants.{Xor}
use Rattle.test_nets.proofs.LiveNodes.{kind_if}
use Rattle.test_nets.proofs.editing.is_xor.Goals as goal

pub returns-in-Some-Xor : goal.returns-in-Some-Xor
returns-in-Some-Xor c _ =
    let is : kind_of (net_of c.args.graph.now) c.args.node.0 ≡ Some Xor = sym c.kind.ensures ∙ c.in-Some-Xor.is ∙ ap (λ (k : Kind). Some k) c.in-Some-Xor.field-0-is in
    kind_if (net_of c.args.graph.now) c.args.node.0 Xor is
