use Rattle.local_evaluation.proofs.Public.{kind_is}
use Rattle.std.proofs.Common.{refl, sym}
use Rattle.gate_graph.specs.Circuit.{net_of}
use Rattle.refutation.proofs.equal_lines.line_equal_forward.Goals as goal

pub returns : goal.returns
returns c = (
  (c.in_ok-kind.kind, (kind_is (net_of c.args.question.now.graph.now) c.args.node.0 c.in_ok-kind.kind c.in_ok-kind.ensures, c.if-not-is_gate.ensures.gate.0 refl)),
  c.if-is_faulty.false,
  rw c.gate_pins.ensures.drivers at (sym c.if-not-all_equal.ensures),
  refl,
  refl,
)
