use Rattle.std.proofs.Common.{◌∙◌, ◌<◌, length, arith, List, subst, sym}
use Rattle.std.specs.List.{AllByRecursion}
use Rattle.rm_base.specs.declared.numbers.Fault.{Fault}
use Rattle.gate_net.specs.Values.{HasPin}
use Rattle.gate_graph.specs.Circuit.{net_of}
use Rattle.gate_graph.proofs.FaultLists.{nodes_added, pins_all, whole}
use Rattle.gate_graph.proofs.faults.faults_of.Goals as goal

pub loop-number-preserved : goal.loop-number-preserved
loop-number-preserved c =
    let below : c.loop-number.number < length (net_of c.args.graph.now).nodes = omega (arith, c.loop-number-test.true, c.node_bound-number-end.ensures) in
    nodes_added (net_of c.args.graph.now) c.loop-number.number c.loop-number.faults.items c.add_faults.new.faults.items below c.in_ok-add_faults.ensures ∙ c.loop-number.invariant

pub returns-clause-pins : goal.returns-clause-pins
returns-clause-pins c =
    subst (λ (fs : List Fault). AllByRecursion (HasPin (net_of c.args.graph.now)) fs)
    (sym (whole (net_of c.args.graph.now) c.loop-number.number c.loop-number.faults.items (omega (arith, c.loop-number-test.false, c.node_bound-number-end.ensures)) c.loop-number.invariant))
    (pins_all (net_of c.args.graph.now))
