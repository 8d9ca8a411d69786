use Rattle.std.proofs.Common.{Some, rules, ap, refl, subst, sym, ◌∙◌}
use Rattle.local_evaluation.proofs.Public.{kind_is}
use Rattle.gate_graph.specs.Circuit.{net_of}
use Rattle.gate_net.specs.Net.{IsKind}
use Rattle.gate_net.specs.declared.Kind.{Kind}
use Rattle.gate_net.specs.declared.Kind.TheVariants.{Not}
use Rattle.refutation.proofs.Told.{one_driver}
use Rattle.refutation.proofs.equal_lines.line_not_equal.Goals as goal

is_not : (c : goal.In_ok-driver) → IsKind (net_of c.args.question.now.graph.now) c.args.node.0 Not
is_not c = let P : Kind → Type 0 = λ k. IsKind (net_of c.args.question.now.graph.now) c.args.node.0 k in subst P (search rules) (kind_is (net_of c.args.question.now.graph.now) c.args.node.0 c.in_ok-kind.kind c.in_ok-kind.ensures)

pub returns : goal.returns
returns c = (is_not c, c.if-node-question.false, (sym c.in_ok-equal.ensures ∙ ap Some c.if-not-equal.false), one_driver (net_of c.args.question.now.graph.now) c.args.node.0 c.in_ok-driver.driver.0 c.well_formed-2.ensures.net (is_not c) (sym c.in_ok-driver.ensures.driver), refl)
