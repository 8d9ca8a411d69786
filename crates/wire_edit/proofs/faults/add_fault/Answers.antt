use Rattle.std.proofs.Common.{sym, ◌∙◌}
use Rattle.gate_graph.specs.Circuit.{net_of}
use Rattle.wire_edit.proofs.Cycles.{no_gate_fault, no_node_fault, kind_fault}
use Rattle.wire_edit.proofs.Tested.{live_is}
use Rattle.wire_edit.proofs.faults.add_fault.Goals as goal

pub closes_cycle-requires-clause-gate : goal.closes_cycle-requires-clause-gate
closes_cycle-requires-clause-gate c = live_is (net_of c.args.graph.now) c.args.gate.0 (sym c.is_live.ensures ∙ c.if-not-is_live.false)

pub closes_cycle-requires-clause-node : goal.closes_cycle-requires-clause-node
closes_cycle-requires-clause-node c = live_is (net_of c.args.graph.now) c.args.node.0 (sym c.is_live-2.ensures ∙ c.if-not-is_live-2.false)

pub returns-then-not-is_live-clause-fault : goal.returns-then-not-is_live-clause-fault
returns-then-not-is_live-clause-fault c =
    no_gate_fault (net_of c.args.graph.now) c.args.gate c.args.node c.well_formed-2.ensures.net.acyclic (sym c.is_live.ensures ∙ c.if-not-is_live.true)

pub returns-then-not-is_live-2-clause-fault : goal.returns-then-not-is_live-2-clause-fault
returns-then-not-is_live-2-clause-fault c =
    no_node_fault (net_of c.args.graph.now) c.args.gate c.args.node c.well_formed-2.ensures.net.acyclic (sym c.is_live.ensures ∙ c.if-not-is_live.false) (sym c.is_live-2.ensures ∙ c.if-not-is_live-2.true)

pub returns-then-not-is_junction-clause-fault : goal.returns-then-not-is_junction-clause-fault
returns-then-not-is_junction-clause-fault c =
    kind_fault (net_of c.args.graph.now) c.args.gate c.args.node c.well_formed-2.ensures.net.acyclic (sym c.is_live.ensures ∙ c.if-not-is_live.false) (sym c.is_live-2.ensures ∙ c.if-not-is_live-2.false) (sym c.is_junction.ensures ∙ c.if-not-is_junction.true)
