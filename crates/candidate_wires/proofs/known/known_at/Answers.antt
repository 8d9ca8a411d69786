use Rattle.std.proofs.Common.{refl, sym, ◌∙◌}
use Rattle.gate_graph.specs.Circuit.{net_of}
use Rattle.gate_net.specs.Net.{IsKind}
use Rattle.refutation.proofs.Public.{kind_is}
use Rattle.candidate_wires.proofs.Choices.{option_true}
use Rattle.candidate_wires.proofs.known.known_at.Goals as goal

pub returns : goal.returns
returns c =
    let is : IsKind (net_of c.args.graph.now) c.args.node.0 c.in_ok-kind.kind = kind_is (net_of c.args.graph.now) c.args.node.0 c.in_ok-kind.kind (sym c.in_ok-kind.was ∙ c.kind.ensures) in (
      refl,
      (
        record {
          kind = c.in_ok-kind.kind;
          is_kind = is;
          no_constant = c.is_no_constant.ensures.0 c.if-not-is_no_constant.false;
          equal = sym c.known_of-2.ensures ∙ option_true c.known_of-2.result c.if-ne.ensures;
          known = sym c.known_of.ensures ∙ c.in_ok-value.was;
        },
        c.has_no_not-has_no_not.ensures,
      ),
    )

pub has_no_not-has_no_not-requires : goal.has_no_not-has_no_not-requires
has_no_not-has_no_not-requires c = (c.in_ok-kind.kind, kind_is (net_of c.args.graph.now) c.args.node.0 c.in_ok-kind.kind (sym c.in_ok-kind.was ∙ c.kind.ensures))
