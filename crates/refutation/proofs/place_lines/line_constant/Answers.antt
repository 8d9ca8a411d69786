use Rattle.local_evaluation.proofs.Public.{kind_is}
use Rattle.std.proofs.Common.{refl, subst, sym, ◌∙◌}
use Rattle.gate_graph.specs.Circuit.{net_of}
use Rattle.gate_net.proofs.Public.{constant_is}
use Rattle.gate_net.specs.Net.{IsKind}
use Rattle.gate_net.specs.declared.Kind.{Kind}
use Rattle.refutation.proofs.place_lines.line_constant.Goals as goal

pub returns : goal.returns
returns c held =
    let P : Kind → Type 0 = λ kind. IsKind (net_of c.args.question.now.graph.now) c.args.node.0 kind in
    let is : P c.in_ok-kind.kind = kind_is (net_of c.args.question.now.graph.now) c.args.node.0 _ c.in_ok-kind.ensures in
    (c.in_ok-value.value, subst P (constant_is c.in_ok-kind.kind c.in_ok-value.value (sym c.constant_value.ensures ∙ c.in_ok-value.was)) is, refl, refl)
