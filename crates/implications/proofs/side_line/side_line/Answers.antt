use Rattle.std.proofs.Common.{None, Some, false, not, subst, sym, ◌∙◌, ◌≢◌}
use Rattle.gate_graph.specs.Circuit.{net_of}
use Rattle.gate_net.proofs.Public.{is_known_true}
use Rattle.implications.proofs.GateLines.{side_done, side_fresh, side_none}
use Rattle.implications.proofs.Pulling.{not_known_false}
use Rattle.implications.proofs.side_line.side_line.Goals as goal
use Rattle.implications.specs.Inner.Sides.{IsSide}
use Rattle.refutation.specs.FactSets.{held_by}

pub returns-then-not-is_value : goal.returns-then-not-is_value
returns-then-not-is_value c = side_none (net_of c.args.question.now.graph.now) c.args.question.now.fault c.args.facts.now c.requires.ready.formed c.requires.free c.args.node (subst (λ k. k ≢ Some false) c.known_of.ensures (not_known_false false c.known_of.result (sym c.if-not-is_value.ensures)))

pub returns-in_err-position : goal.returns-in_err-position
returns-in_err-position c =
    rw c.from_residual.ensures (side_done (net_of c.args.question.now.graph.now) c.args.question.now.fault c.args.facts.now c.requires.ready.formed c.requires.free c.args.node c.args.c c.requires.kind (subst (λ ds. IsSide ds c.args.question.now.fault (held_by c.args.facts.now) c.args.node.0 (not c.args.c) None) c.gate_pins.ensures.drivers c.in_err-position.ensures))

pub returns : goal.returns
returns c =
    let side = subst (λ ds. IsSide ds c.args.question.now.fault (held_by c.args.facts.now) c.args.node.0 (not c.args.c) (Some (c.in_ok-position.position, c.in_ok-position.driver))) c.gate_pins.ensures.drivers c.in_ok-position.ensures in
    side_fresh (net_of c.args.question.now.graph.now) c.args.question.now.fault c.args.facts.now c.requires.ready.formed c.requires.free c.args.node c.args.c c.in_ok-position.position c.in_ok-position.driver c.requires.kind (sym c.known_of.ensures ∙ is_known_true false c.known_of.result (sym c.if-not-is_value.ensures)) side.0 side.1
