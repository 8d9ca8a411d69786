use Rattle.std.proofs.Common.{Some, sym, ◌∙◌, length, subst}
use Rattle.gate_graph.specs.Circuit.{net_of}
use Rattle.gate_net.specs.Net.{drivers_of}
use Rattle.wire_edit.specs.Inner.Firsts.{IsFirst}
use Rattle.wire_edit.specs.Tests.{is_repeated}
use Rattle.wire_edit.proofs.RuleAt.{repeated_rule}
use Rattle.wire_edit.proofs.Tested.{several_of}
use Rattle.wire_edit.proofs.rules.late_rule.Goals as goal

pub rule_of_not-requires : goal.rule_of_not-requires
rule_of_not-requires c = record {
  kind = sym c.is_not.ensures ∙ c.if-is_not.true;
  used = c.requires.used;
  none = c.requires.none;
  quiet = c.requires.quiet;
}

pub returns-in-Some : goal.returns-in-Some
returns-in-Some c =
    let net = net_of c.args.graph.now in
    let first : IsFirst (is_repeated (drivers_of net c.args.gate.0)) (length (drivers_of net c.args.gate.0)) (Some c.in-Some.position) =
    subst (IsFirst (is_repeated (drivers_of net c.args.gate.0)) (length (drivers_of net c.args.gate.0))) c.in-Some.is c.requires.repeated in
    sym (repeated_rule net c.args.gate.0 c.requires.used c.requires.kind c.requires.none (several_of net c.args.gate.0 c.requires.kind (sym c.is_not.ensures ∙ c.if-is_not.false)) c.in-Some.position first)

pub rule_of_several-requires : goal.rule_of_several-requires
rule_of_several-requires c =
    let net = net_of c.args.graph.now in
    record {
      kind = several_of net c.args.gate.0 c.requires.kind (sym c.is_not.ensures ∙ c.if-is_not.false);
      used = c.requires.used;
      none = c.requires.none;
      apart = subst (IsFirst (is_repeated (drivers_of net c.args.gate.0)) (length (drivers_of net c.args.gate.0))) c.in-None.is c.requires.repeated;
    }
