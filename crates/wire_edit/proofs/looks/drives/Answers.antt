use Rattle.std.proofs.Common.{◌∙◌, sym}
use Rattle.std.proofs.lemmas.Bool.{eqb-true, eqb-false}
use Rattle.gate_graph.specs.Circuit.{net_of}
use Rattle.wire_edit.proofs.Tested.{live_is}
use Rattle.wire_edit.proofs.Reading.{dead_drives}
use Rattle.wire_edit.proofs.Walks.{among_rest, among_first}
use Rattle.wire_edit.proofs.looks.drives.Goals as goal

pub returns-then-eq : goal.returns-then-eq
returns-then-eq c =
    sym (c.loop-driver.invariant ∙ among_first c.args.node.0 c.in-Some.driver.0 _ _ c.in-Some.ensures.steps (eqb-true _ _ (sym c.eq.ensures ∙ c.if-eq.true)))

pub loop-driver-preserved : goal.loop-driver-preserved
loop-driver-preserved c =
    c.loop-driver.invariant ∙ among_rest c.args.node.0 c.in-Some.driver.0 _ _ c.in-Some.ensures.steps (eqb-false _ _ (sym c.eq.ensures ∙ c.if-eq.false))

pub returns-then-not-is_live : goal.returns-then-not-is_live
returns-then-not-is_live c = sym (dead_drives (net_of c.args.graph.now) c.args.gate.0 c.args.node.0 (sym c.is_live.ensures ∙ c.if-not-is_live.true))

pub inputs_of-driver-items-requires : goal.inputs_of-driver-items-requires
inputs_of-driver-items-requires c = live_is (net_of c.args.graph.now) c.args.gate.0 (sym c.is_live.ensures ∙ c.if-not-is_live.false)
