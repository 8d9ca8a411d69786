use Rattle.std.proofs.Common.{◌≡◌, ◌<◌, ◌≤◌, ◌+◌, [], All, List, ap, length, map, subst, sym, take, true, ℕ, ◌∙◌}
use Rattle.std.specs.Prelude.{Some, slice_get}
use Rattle.std.proofs.lemmas.List.{length-map}
use Rattle.gate_net.specs.Edits.{MakesGate}
use Rattle.gate_net.specs.Net.{IsLive, Node}
use Rattle.gate_graph.specs.Circuit.{net_of, pins_taken}
use Rattle.gate_graph.specs.Readers.{NewReaders}
use Rattle.pin_pool.specs.Ring.{has}
use Rattle.rm_base.specs.declared.numbers.NodeId.{NodeId}
use Rattle.cover_decompose.specs.Built.{IsBuilt}
use Rattle.cover_decompose.specs.Inner.PlanView.{node_of_plan}
use Rattle.cover_decompose.specs.declared.plan.PlanNode.{PlanNode}
use Rattle.cover_decompose.proofs.Building.{next_built}
use Rattle.cover_decompose.proofs.Fitting.{NextFits, next_fits}
use Rattle.cover_decompose.proofs.Steps.{item_there}
use Rattle.cover_decompose.proofs.build.add_node.Goals as goal
use Rattle.rm_base.proofs.Public.{take_one_more}

pub node_ids-requires : goal.node_ids-requires
node_ids-requires c =
    let fits : NextFits c.args.graph.now (node_of_plan c.index-made-at.result) =
    next_fits c.args.graph.now (map (λ (n : PlanNode). node_of_plan n) c.args.made.now) c.args.sources c.args.at (node_of_plan c.index-made-at.result) c.requires.plan c.requires.after
    (item_there (λ (n : PlanNode). node_of_plan n) c.args.made.now c.args.at c.index-made-at.result c.requires.within c.index-made-at.is) c.requires.built in
    subst (λ (l : List ℕ). All (λ d. d < 4294967296) l) (sym c.as_slice.ensures.value) fits.small

pub add_gate-requires-clause-kind : goal.add_gate-requires-clause-kind
add_gate-requires-clause-kind c =
    (next_fits c.args.graph.now (map (λ (n : PlanNode). node_of_plan n) c.args.made.now) c.args.sources c.args.at (node_of_plan c.index-made-at.result) c.requires.plan c.requires.after
    (item_there (λ (n : PlanNode). node_of_plan n) c.args.made.now c.args.at c.index-made-at.result c.requires.within c.index-made-at.is) c.requires.built).kind

pub add_gate-requires-clause-one : goal.add_gate-requires-clause-one
add_gate-requires-clause-one c = λ e.
    let fits : NextFits c.args.graph.now (node_of_plan c.index-made-at.result) =
    next_fits c.args.graph.now (map (λ (n : PlanNode). node_of_plan n) c.args.made.now) c.args.sources c.args.at (node_of_plan c.index-made-at.result) c.requires.plan c.requires.after
    (item_there (λ (n : PlanNode). node_of_plan n) c.args.made.now c.args.at c.index-made-at.result c.requires.within c.index-made-at.is) c.requires.built in
    let ids : map (λ (i : NodeId). i.0) c.as_slice-2.result.now ≡ c.index-made-at.result.drivers.items = ap (λ (l : List NodeId). map (λ (i : NodeId). i.0) l) c.as_slice-2.ensures.value ∙ (c.in_ok-drivers.ensures ∙ c.as_slice.ensures.value) in
    sym (length-map c.as_slice-2.result.now (λ (i : NodeId). i.0)) ∙ (ap (λ (l : List ℕ). length l) ids ∙ fits.one e)

pub add_gate-requires-clause-two : goal.add_gate-requires-clause-two
add_gate-requires-clause-two c = λ e.
    let fits : NextFits c.args.graph.now (node_of_plan c.index-made-at.result) =
    next_fits c.args.graph.now (map (λ (n : PlanNode). node_of_plan n) c.args.made.now) c.args.sources c.args.at (node_of_plan c.index-made-at.result) c.requires.plan c.requires.after
    (item_there (λ (n : PlanNode). node_of_plan n) c.args.made.now c.args.at c.index-made-at.result c.requires.within c.index-made-at.is) c.requires.built in
    let ids : map (λ (i : NodeId). i.0) c.as_slice-2.result.now ≡ c.index-made-at.result.drivers.items = ap (λ (l : List NodeId). map (λ (i : NodeId). i.0) l) c.as_slice-2.ensures.value ∙ (c.in_ok-drivers.ensures ∙ c.as_slice.ensures.value) in
    sym (length-map c.as_slice-2.result.now (λ (i : NodeId). i.0)) ∙ (ap (λ (l : List ℕ). length l) ids ∙ fits.two e)

pub add_gate-requires-clause-drivers : goal.add_gate-requires-clause-drivers
add_gate-requires-clause-drivers c =
    let fits : NextFits c.args.graph.now (node_of_plan c.index-made-at.result) =
    next_fits c.args.graph.now (map (λ (n : PlanNode). node_of_plan n) c.args.made.now) c.args.sources c.args.at (node_of_plan c.index-made-at.result) c.requires.plan c.requires.after
    (item_there (λ (n : PlanNode). node_of_plan n) c.args.made.now c.args.at c.index-made-at.result c.requires.within c.index-made-at.is) c.requires.built in
    let ids : map (λ (i : NodeId). i.0) c.as_slice-2.result.now ≡ c.index-made-at.result.drivers.items = ap (λ (l : List NodeId). map (λ (i : NodeId). i.0) l) c.as_slice-2.ensures.value ∙ (c.in_ok-drivers.ensures ∙ c.as_slice.ensures.value) in
    subst (λ (l : List ℕ). (d : ℕ) → has d l ≡ true → IsLive (net_of c.args.graph.now) d) (sym ids) fits.live

pub add_gate-requires-clause-pins : goal.add_gate-requires-clause-pins
add_gate-requires-clause-pins c =
    let fits : NextFits c.args.graph.now (node_of_plan c.index-made-at.result) =
    next_fits c.args.graph.now (map (λ (n : PlanNode). node_of_plan n) c.args.made.now) c.args.sources c.args.at (node_of_plan c.index-made-at.result) c.requires.plan c.requires.after
    (item_there (λ (n : PlanNode). node_of_plan n) c.args.made.now c.args.at c.index-made-at.result c.requires.within c.index-made-at.is) c.requires.built in
    let ids : map (λ (i : NodeId). i.0) c.as_slice-2.result.now ≡ c.index-made-at.result.drivers.items = ap (λ (l : List NodeId). map (λ (i : NodeId). i.0) l) c.as_slice-2.ensures.value ∙ (c.in_ok-drivers.ensures ∙ c.as_slice.ensures.value) in
    let count : length c.as_slice-2.result.now ≡ length c.index-made-at.result.drivers.items = sym (length-map c.as_slice-2.result.now (λ (i : NodeId). i.0)) ∙ ap (λ (l : List ℕ). length l) ids in
    subst (λ (n : ℕ). pins_taken c.args.graph.now + n ≤ 4294967295) (sym count) fits.pins

pub add_gate-requires-clause-nodes : goal.add_gate-requires-clause-nodes
add_gate-requires-clause-nodes c =
    (next_fits c.args.graph.now (map (λ (n : PlanNode). node_of_plan n) c.args.made.now) c.args.sources c.args.at (node_of_plan c.index-made-at.result) c.requires.plan c.requires.after
    (item_there (λ (n : PlanNode). node_of_plan n) c.args.made.now c.args.at c.index-made-at.result c.requires.within c.index-made-at.is) c.requires.built).nodes

pub returns : goal.returns
returns c =
    let made : List Node = map (λ (n : PlanNode). node_of_plan n) c.args.made.now in
    let at : slice_get made c.args.at ≡ Some (node_of_plan c.index-made-at.result) = item_there (λ (n : PlanNode). node_of_plan n) c.args.made.now c.args.at c.index-made-at.result c.requires.within c.index-made-at.is in
    let ids : map (λ (i : NodeId). i.0) c.as_slice-2.result.now ≡ c.index-made-at.result.drivers.items = ap (λ (l : List NodeId). map (λ (i : NodeId). i.0) l) c.as_slice-2.ensures.value ∙ (c.in_ok-drivers.ensures ∙ c.as_slice.ensures.value) in
    let count : length c.as_slice-2.result.now ≡ length c.index-made-at.result.drivers.items = sym (length-map c.as_slice-2.result.now (λ (i : NodeId). i.0)) ∙ ap (λ (l : List ℕ). length l) ids in
    let made_gate = subst (λ (l : List ℕ). MakesGate (net_of c.args.graph.now) (net_of c.add_gate.new.self) c.index-made-at.result.kind l c.in_ok-_number._number.0) ids c.in_ok-_number.ensures.made in
    let readers = subst (λ (l : List ℕ). NewReaders c.args.graph.now c.add_gate.new.self c.in_ok-_number._number.0 l) ids c.in_ok-_number.ensures.fanouts in
    let pins = c.in_ok-_number.ensures.pins ∙ ap (λ (n : ℕ). pins_taken c.args.graph.now + n) count in
    subst (λ (l : List Node). IsBuilt c.add_gate.new.self l []) (sym (take_one_more made c.args.at (node_of_plan c.index-made-at.result) at))
    (next_built c.args.graph.now c.add_gate.new.self (take c.args.at made) (node_of_plan c.index-made-at.result) c.in_ok-_number._number.0 c.requires.built c.well_formed-2.ensures.net.canonical made_gate readers pins c.in_ok-_number.ensures.nodes c.in_ok-_number.ensures.epoch)
