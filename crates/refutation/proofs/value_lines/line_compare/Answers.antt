use Rattle.local_evaluation.proofs.Public.{beq_same}
use Rattle.gate_graph.specs.Circuit.{net_of}
use Rattle.std.proofs.Common.{refl, sym, ◌∙◌}
use Rattle.refutation.specs.FactSets.{held_by}
use Rattle.refutation.specs.declared.pins.Aspect.TheVariants.{OfGood, OfFaulty}
use Rattle.refutation.proofs.Told.{both_some}
use Rattle.refutation.proofs.value_lines.line_compare.Goals as goal

pub returns-then-good-faulty : goal.returns-then-good-faulty
returns-then-good-faulty c =
    let h = both_some (net_of c.args.question.now.graph.now) OfGood OfFaulty (held_by c.args.facts.now) c.args.node.0 (c.in_ok-good.good, c.in_ok-good.faulty) c.in_ok-good.ensures in
    (h.0, c.in_ok-good.good, c.in_ok-good.faulty, h.1.0, h.1.1, refl, rw (sym (beq_same c.in_ok-good.good c.in_ok-good.faulty) ∙ c.if-good-faulty.true) refl)

pub returns-else-good-faulty : goal.returns-else-good-faulty
returns-else-good-faulty c =
    let h = both_some (net_of c.args.question.now.graph.now) OfGood OfFaulty (held_by c.args.facts.now) c.args.node.0 (c.in_ok-good.good, c.in_ok-good.faulty) c.in_ok-good.ensures in
    (h.0, c.in_ok-good.good, c.in_ok-good.faulty, h.1.0, h.1.1, refl, rw (sym (beq_same c.in_ok-good.good c.in_ok-good.faulty) ∙ c.if-good-faulty.false) refl)
