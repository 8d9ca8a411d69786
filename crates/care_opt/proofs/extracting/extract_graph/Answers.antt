use Rattle.std.proofs.Common.{List, ap, arith, length, map, ℕ, ◌∙◌, ◌≡◌}
use Rattle.std.specs.Prelude.{slice_get}
use Rattle.std.proofs.lemmas.List.{length-map}
use Rattle.gate_graph.specs.Circuit.{net_of, pins_taken}
use Rattle.gate_graph.specs.Start.{first_net}
use Rattle.gate_net.specs.Net.{Net, drivers_of, wire_count}
use Rattle.joined_nets.proofs.Public.{first_length, first_whole, live_driver}
use Rattle.rm_base.specs.declared.numbers.NodeId.{NodeId}
use Rattle.wire_edit.specs.Steps.{or_zero}
use Rattle.care_opt.specs.Inner.Looking.{looked}
use Rattle.care_opt.specs.Extract.{gated_nodes}
use Rattle.care_opt.proofs.Looking.{all_made, gated_low, gated_new, main_fits, main_made, small_extract}
use Rattle.care_opt.proofs.extracting.extract_graph.Goals as goal

pub copy_gates-requires-clause-whole : goal.copy_gates-requires-clause-whole
copy_gates-requires-clause-whole c = first_whole c.in_ok-small.small c.source_count.result c.in_ok-small.ensures.net c.in_ok-small.ensures.pins c.in_ok-small.ensures.nodes

pub copy_gates-requires-clause-size : goal.copy_gates-requires-clause-size
copy_gates-requires-clause-size c = ap (λ (n : Net). length n.nodes) (c.in_ok-small.ensures.net ∙ ap (λ (i : ℕ). first_net i) c.source_count.ensures) ∙ first_length (net_of c.args.graph.now) c.well_formed-2.ensures.net

pub copy_gates-requires-clause-fits : goal.copy_gates-requires-clause-fits
copy_gates-requires-clause-fits c = main_fits c.args.bound (net_of c.args.graph.now) (net_of c.in_ok-small.small) c.well_formed-2.ensures.net c.requires.stands.early (c.in_ok-small.ensures.net ∙ ap (λ (i : ℕ). first_net i) c.source_count.ensures) c.requires.few c.requires.wires

pub gated_numbers-requires : goal.gated_numbers-requires
gated_numbers-requires c = record { gates = λ k y e. let d = c.requires.stands.gates k y e in (d.0, d.1.0) }

pub observe_all-requires-clause-live : goal.observe_all-requires-clause-live
observe_all-requires-clause-live c = λ p x e.
    live_driver (net_of c.copy_gates.new.small) x c.in_ok-numbers.ensures.whole.no_gaps
    (gated_new c.args.bound (net_of c.args.graph.now) (net_of c.copy_gates.new.small) c.as_slice.result.now (map (λ (n : NodeId). n.0) c.as_slice-2.result.now) c.well_formed-2.ensures.net c.requires.stands
    (main_made c.args.bound (net_of c.args.graph.now) (net_of c.in_ok-small.small) (net_of c.copy_gates.new.small) c.well_formed-2.ensures.net c.requires.stands.early (c.in_ok-small.ensures.net ∙ ap (λ (i : ℕ). first_net i) c.source_count.ensures) c.in_ok-numbers.ensures.net)
    (λ y lt. ap (λ (l : List ℕ). slice_get l y) c.as_slice.ensures.value ∙ c.in_ok-numbers.ensures.numbers y lt) (ap (λ (l : List NodeId). map (λ (n : NodeId). n.0) l) c.as_slice-2.ensures.value ∙ c.in_ok-nodes.ensures) p x e)

pub observe_all-requires-clause-pins : goal.observe_all-requires-clause-pins
observe_all-requires-clause-pins c =
    let made = main_made c.args.bound (net_of c.args.graph.now) (net_of c.in_ok-small.small) (net_of c.copy_gates.new.small) c.well_formed-2.ensures.net c.requires.stands.early (c.in_ok-small.ensures.net ∙ ap (λ (i : ℕ). first_net i) c.source_count.ensures) c.in_ok-numbers.ensures.net in
    let wires = ap (λ (n : Net). wire_count n) made in
    let small = (small_extract c.args.bound (net_of c.args.graph.now)).0 in
    let few = c.requires.wires in
    let pins : pins_taken c.copy_gates.new.small ≡ wire_count (net_of c.copy_gates.new.small) = c.in_ok-numbers.ensures.whole.pins in
    let are = ap (λ (l : List ℕ). length l) (ap (λ (l : List NodeId). map (λ (n : NodeId). n.0) l) c.as_slice-2.ensures.value ∙ c.in_ok-nodes.ensures) in
    let size = length-map c.as_slice-2.result.now (λ (n : NodeId). n.0) in
    let mapped = length-map (gated_nodes (net_of c.args.graph.now)) (looked c.as_slice.result.now) in
    let same = length-map (net_of c.args.graph.now).observed (λ (x : ℕ). or_zero (slice_get (drivers_of (net_of c.args.graph.now) x) 0)) in
    let seen = c.requires.observed in
    omega (arith, wires, small, few, pins, are, size, mapped, same, seen)

pub returns : goal.returns
returns c = record {
  net =
      all_made c.args.bound (net_of c.args.graph.now) (net_of c.copy_gates.new.small) (net_of c.observe_all.new.graph) c.as_slice.result.now (map (λ (n : NodeId). n.0) c.as_slice-2.result.now)
      (main_made c.args.bound (net_of c.args.graph.now) (net_of c.in_ok-small.small) (net_of c.copy_gates.new.small) c.well_formed-2.ensures.net c.requires.stands.early (c.in_ok-small.ensures.net ∙ ap (λ (i : ℕ). first_net i) c.source_count.ensures) c.in_ok-numbers.ensures.net)
      c.in_ok-observe_all.ensures.net (ap (λ (l : List NodeId). map (λ (n : NodeId). n.0) l) c.as_slice-2.ensures.value ∙ c.in_ok-nodes.ensures)
      (λ k y e. ap (λ (l : List ℕ). slice_get l y) c.as_slice.ensures.value ∙ c.in_ok-numbers.ensures.numbers y (gated_low c.args.bound (net_of c.args.graph.now) c.requires.stands.gates k y e));
}
