use Rattle.std.proofs.Common.{List, ap, arith, length, map, ◌∙◌, ◌≤◌}
use Rattle.gate_graph.specs.Circuit.{net_of}
use Rattle.gate_net.specs.Net.{Net}
use Rattle.rm_base.specs.declared.numbers.NodeId.{NodeId}
use Rattle.equal_miter.proofs.Sizes.{ends_below, fault_made, few_nodes, few_wires, finished, last_fit}
use Rattle.equal_miter.proofs.building.miter_of_graphs.Goals as goal

pub observe_none-requires-clause-whole : goal.observe_none-requires-clause-whole
observe_none-requires-clause-whole c = c.in_ok-differing.ensures.whole

pub observe_none-requires-clause-nodes : goal.observe_none-requires-clause-nodes
observe_none-requires-clause-nodes c = ends_below (net_of c.args.a.now) (net_of c.args.b.now) (net_of c.compare_places.new.graph) (map (λ (n : NodeId). n.0) c.as_slice.result.now) c.in_ok-differing.ensures.net (ap (λ (l : List NodeId). map (λ (n : NodeId). n.0) l) c.as_slice.ensures.value ∙ c.in_ok-differing.ensures.last)

pub observe_none-requires-clause-fits : goal.observe_none-requires-clause-fits
observe_none-requires-clause-fits c = last_fit (net_of c.args.a.now) (net_of c.args.b.now) (net_of c.compare_places.new.graph) (map (λ (n : NodeId). n.0) c.as_slice.result.now) c.in_ok-differing.ensures.net (ap (λ (l : List NodeId). map (λ (n : NodeId). n.0) l) c.as_slice.ensures.value ∙ c.in_ok-differing.ensures.last) c.requires.small c.requires.other_small

pub returns-clause-net : goal.returns-clause-net
returns-clause-net c = finished (net_of c.args.a.now) (net_of c.args.b.now) (net_of c.compare_places.new.graph) (map (λ (n : NodeId). n.0) c.as_slice.result.now) c.in_ok-differing.ensures.net (ap (λ (l : List NodeId). map (λ (n : NodeId). n.0) l) c.as_slice.ensures.value ∙ c.in_ok-differing.ensures.last) (net_of c.observe_none.new.graph) c.in_ok-gate.ensures.net

pub returns-clause-fault : goal.returns-clause-fault
returns-clause-fault c = fault_made (net_of c.args.a.now) (net_of c.args.b.now) (net_of c.compare_places.new.graph) (map (λ (n : NodeId). n.0) c.as_slice.result.now) c.in_ok-differing.ensures.net (ap (λ (l : List NodeId). map (λ (n : NodeId). n.0) l) c.as_slice.ensures.value ∙ c.in_ok-differing.ensures.last) c.in_ok-gate.gate.0 c.in_ok-gate.ensures.number

pub returns-clause-wires : goal.returns-clause-wires
returns-clause-wires c =
    few_wires (net_of c.args.a.now) (net_of c.args.b.now) (net_of c.compare_places.new.graph) (map (λ (n : NodeId). n.0) c.as_slice.result.now) c.in_ok-differing.ensures.net (ap (λ (l : List NodeId). map (λ (n : NodeId). n.0) l) c.as_slice.ensures.value ∙ c.in_ok-differing.ensures.last) c.requires.small c.requires.other_small (net_of c.observe_none.new.graph)
    (finished (net_of c.args.a.now) (net_of c.args.b.now) (net_of c.compare_places.new.graph) (map (λ (n : NodeId). n.0) c.as_slice.result.now) c.in_ok-differing.ensures.net (ap (λ (l : List NodeId). map (λ (n : NodeId). n.0) l) c.as_slice.ensures.value ∙ c.in_ok-differing.ensures.last) (net_of c.observe_none.new.graph) c.in_ok-gate.ensures.net)

pub returns-clause-nodes : goal.returns-clause-nodes
returns-clause-nodes c =
    few_nodes (net_of c.args.a.now) (net_of c.args.b.now) (net_of c.compare_places.new.graph) (map (λ (n : NodeId). n.0) c.as_slice.result.now) c.in_ok-differing.ensures.net (ap (λ (l : List NodeId). map (λ (n : NodeId). n.0) l) c.as_slice.ensures.value ∙ c.in_ok-differing.ensures.last) c.requires.small c.requires.other_small (net_of c.observe_none.new.graph)
    (finished (net_of c.args.a.now) (net_of c.args.b.now) (net_of c.compare_places.new.graph) (map (λ (n : NodeId). n.0) c.as_slice.result.now) c.in_ok-differing.ensures.net (ap (λ (l : List NodeId). map (λ (n : NodeId). n.0) l) c.as_slice.ensures.value ∙ c.in_ok-differing.ensures.last) (net_of c.observe_none.new.graph) c.in_ok-gate.ensures.net)

pub returns-clause-live : goal.returns-clause-live
returns-clause-live c =
    let few : length (net_of c.observe_none.new.graph).nodes ≤ 200000 =
    few_nodes (net_of c.args.a.now) (net_of c.args.b.now) (net_of c.compare_places.new.graph) (map (λ (n : NodeId). n.0) c.as_slice.result.now) c.in_ok-differing.ensures.net (ap (λ (l : List NodeId). map (λ (n : NodeId). n.0) l) c.as_slice.ensures.value ∙ c.in_ok-differing.ensures.last) c.requires.small c.requires.other_small (net_of c.observe_none.new.graph)
    (finished (net_of c.args.a.now) (net_of c.args.b.now) (net_of c.compare_places.new.graph) (map (λ (n : NodeId). n.0) c.as_slice.result.now) c.in_ok-differing.ensures.net (ap (λ (l : List NodeId). map (λ (n : NodeId). n.0) l) c.as_slice.ensures.value ∙ c.in_ok-differing.ensures.last) (net_of c.observe_none.new.graph) c.in_ok-gate.ensures.net) in
    let same = c.in_ok-gate.ensures.live in
    omega (arith, few, same)

pub returns-clause-observed : goal.returns-clause-observed
returns-clause-observed c =
    ap (λ (n : Net). length n.observed)
    (finished (net_of c.args.a.now) (net_of c.args.b.now) (net_of c.compare_places.new.graph) (map (λ (n : NodeId). n.0) c.as_slice.result.now) c.in_ok-differing.ensures.net (ap (λ (l : List NodeId). map (λ (n : NodeId). n.0) l) c.as_slice.ensures.value ∙ c.in_ok-differing.ensures.last) (net_of c.observe_none.new.graph) c.in_ok-gate.ensures.net)

pub returns-clause-held : goal.returns-clause-held
returns-clause-held c = c.in_ok-gate.ensures.held
