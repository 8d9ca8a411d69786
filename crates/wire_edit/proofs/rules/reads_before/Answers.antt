use Rattle.std.proofs.Common.{◌∙◌, ℕ, sym, ap, take}
use Rattle.std.proofs.lemmas.Bool.{eqb-true, eqb-false}
use Rattle.wire_edit.specs.Tests.{is_among}
use Rattle.gate_graph.specs.Circuit.{net_of}
use Rattle.wire_edit.proofs.Tested.{live_is}
use Rattle.wire_edit.proofs.Reading.{dead_before}
use Rattle.wire_edit.proofs.Walks.{among_rest, among_first, take_rest, among_taken}
use Rattle.wire_edit.proofs.rules.reads_before.Goals as goal

pub returns-then-left-eq0 : goal.returns-then-left-eq0
returns-then-left-eq0 c =
    sym (c.loop-driver.invariant ∙ ap (λ (n : ℕ). is_among c.args.node.0 (take n c.loop-driver.driver-iterator)) c.if-left-eq0.true)

pub returns-then-eq : goal.returns-then-eq
returns-then-eq c =
    sym (c.loop-driver.invariant ∙ among_first c.args.node.0 c.in-Some.driver.0 _ _ (take_rest c.loop-driver.left c.in-Some.driver.0 _ _ c.in-Some.ensures.steps c.if-left-eq0.false) (eqb-true _ _ (sym c.eq.ensures ∙ c.if-eq.true)))

pub loop-driver-preserved : goal.loop-driver-preserved
loop-driver-preserved c =
    c.loop-driver.invariant ∙ among_rest c.args.node.0 c.in-Some.driver.0 _ _ (take_rest c.loop-driver.left c.in-Some.driver.0 _ _ c.in-Some.ensures.steps c.if-left-eq0.false) (eqb-false _ _ (sym c.eq.ensures ∙ c.if-eq.false))

pub returns : goal.returns
returns c = sym (c.loop-driver.invariant ∙ among_taken c.args.node.0 c.loop-driver.left _ c.in-None.ensures.steps.0)

pub returns-then-not-is_live : goal.returns-then-not-is_live
returns-then-not-is_live c = sym (dead_before (net_of c.args.graph.now) c.args.gate.0 c.args.node.0 c.args.before (sym c.is_live.ensures ∙ c.if-not-is_live.true))

pub inputs_of-driver-items-requires : goal.inputs_of-driver-items-requires
inputs_of-driver-items-requires c = live_is (net_of c.args.graph.now) c.args.gate.0 (sym c.is_live.ensures ∙ c.if-not-is_live.false)
