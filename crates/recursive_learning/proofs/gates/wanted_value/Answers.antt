use Rattle.std.proofs.Common.{Some, ap, subst, sym, ◌∙◌}
use Rattle.gate_graph.specs.Circuit.{net_of}
use Rattle.recursive_learning.specs.Inner.Gates.{NoneGives}
use Rattle.refutation.specs.FactSets.{held_by}
use Rattle.refutation.proofs.Public.{kind_is, never_other}
use Rattle.recursive_learning.proofs.Open.{none_gives, same_value, some_gives}
use Rattle.recursive_learning.proofs.gates.wanted_value.Goals as goal

pub returns-then-look_at_facts : goal.returns-then-look_at_facts
returns-then-look_at_facts c c' u =
    some_gives (net_of c.args.graph.now) (held_by c.args.facts.now) c.args.gate.0 c.in_ok-value.value (rw c.gate_pins.ensures.drivers at (sym c.look_at_facts.ensures.any ∙ c.if-look_at_facts.true))
    (subst (NoneGives (net_of c.args.graph.now) (held_by c.args.facts.now) c.args.gate.0) (same_value (net_of c.args.graph.now) (held_by c.args.facts.now) c.args.gate.0 c.in_ok-kind.kind c.in_ok-value.value c' c.in_ok-kind.ensures c.in_ok-value.ensures u) u.none_gives)

pub returns : goal.returns
returns c = (
  (c.in_ok-kind.kind, (kind_is (net_of c.args.graph.now) c.args.gate.0 c.in_ok-kind.kind c.in_ok-kind.ensures, sym c.in_ok-value.ensures)),
  (
    sym c.in_ok-known_value.ensures ∙ ap Some (never_other c.in_ok-known_value.known_value c.in_ok-value.value c.if-known_value-value.false),
    none_gives (net_of c.args.graph.now) (held_by c.args.facts.now) c.args.gate.0 c.in_ok-value.value (rw c.gate_pins.ensures.drivers at (sym c.look_at_facts.ensures.any ∙ c.if-look_at_facts.false)),
  ),
)
