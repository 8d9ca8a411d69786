use Rattle.std.proofs.Common.{List, ap, arith, length, map, subst, sym, ℕ, ◌+◌, ◌∙◌}
use Rattle.std.specs.Prelude.{slice_get}
use Rattle.gate_graph.specs.Circuit.{net_of}
use Rattle.gate_net.specs.Net.{Net}
use Rattle.rm_base.specs.declared.numbers.NodeId.{NodeId}
use Rattle.joined_nets.specs.Growing.{Fits}
use Rattle.joined_nets.specs.Joined.{first_gate, moved}
use Rattle.joined_nets.proofs.Public.{both_length, list_stays}
use Rattle.equal_miter.proofs.Sizes.{moved_low_enough, ours_low, pairs_same, places_fit, places_made, theirs_low, tops_made}
use Rattle.equal_miter.proofs.building.compare_places.Goals as goal

pub moved_all-requires : goal.moved_all-requires
moved_all-requires c = record {
  small = λ p x e.
      let low = ours_low (net_of c.args.a.now) (net_of c.args.b.now) c.requires.alike p x (ap (λ (l : List ℕ). slice_get l p) (sym c.observed_points.ensures.observed) ∙ e) in
      let nodes = c.requires.small.nodes in
      let sources = c.requires.small.sources in
      let first = c.source_count-first.ensures in
      omega (arith, low, nodes, sources, first);
}

pub moved_all-requires-2 : goal.moved_all-requires-2
moved_all-requires-2 c = record {
  small = λ p x e.
      let low = theirs_low (net_of c.args.a.now) (net_of c.args.b.now) c.requires.alike p x (ap (λ (l : List ℕ). slice_get l p) (sym c.observed_points-2.ensures.observed) ∙ e) in
      let nodes = c.requires.small.nodes in
      let others = c.requires.other_small.nodes in
      let bound = c.node_bound.ensures in
      omega (arith, low, nodes, others, bound);
}

pub add_comparisons-requires-clause-whole : goal.add_comparisons-requires-clause-whole
add_comparisons-requires-clause-whole c = c.requires.whole

pub add_comparisons-requires-clause-pairs : goal.add_comparisons-requires-clause-pairs
add_comparisons-requires-clause-pairs c = pairs_same (net_of c.args.a.now) (net_of c.args.b.now) c.as_slice.result.now c.as_slice-2.result.now c.requires.alike (ap (λ (l : List NodeId). map (λ (n : NodeId). n.0) l) c.as_slice.ensures.value ∙ (c.in_ok-xs.ensures ∙ (ap (λ (l : List ℕ). map (moved (2 + c.source_count-first.result) (2 + c.source_count-first.result)) l) c.observed_points.ensures.observed ∙ list_stays (2 + c.source_count-first.result) (net_of c.args.a.now).observed))) (ap (λ (l : List NodeId). map (λ (n : NodeId). n.0) l) c.as_slice-2.ensures.value ∙ (c.in_ok-ys.ensures ∙ (ap (λ (l : List ℕ). map (moved (2 + c.source_count-first.result) c.node_bound.result) l) c.observed_points-2.ensures.observed ∙ (ap (λ (i : ℕ). map (moved (2 + i) c.node_bound.result) (net_of c.args.b.now).observed) c.source_count-first.ensures ∙ ap (λ (i : ℕ). map (moved (first_gate (net_of c.args.a.now)) i) (net_of c.args.b.now).observed) c.node_bound.ensures))))

pub add_comparisons-requires-clause-ours : goal.add_comparisons-requires-clause-ours
add_comparisons-requires-clause-ours c = λ p x e.
    let low = ours_low (net_of c.args.a.now) (net_of c.args.b.now) c.requires.alike p x (ap (λ (l : List ℕ). slice_get l p) (sym (ap (λ (l : List NodeId). map (λ (n : NodeId). n.0) l) c.as_slice.ensures.value ∙ (c.in_ok-xs.ensures ∙ (ap (λ (l : List ℕ). map (moved (2 + c.source_count-first.result) (2 + c.source_count-first.result)) l) c.observed_points.ensures.observed ∙ list_stays (2 + c.source_count-first.result) (net_of c.args.a.now).observed)))) ∙ e) in
    let size = both_length (net_of c.args.a.now) (net_of c.args.b.now) in
    let is = ap (λ (n : Net). length n.nodes) c.requires.net in
    omega (arith, low, size, is)

pub add_comparisons-requires-clause-theirs : goal.add_comparisons-requires-clause-theirs
add_comparisons-requires-clause-theirs c = λ p y e.
    let low = moved_low_enough (net_of c.args.a.now) (net_of c.args.b.now) c.requires.alike p y (ap (λ (l : List ℕ). slice_get l p) (sym (ap (λ (l : List NodeId). map (λ (n : NodeId). n.0) l) c.as_slice-2.ensures.value ∙ (c.in_ok-ys.ensures ∙ (ap (λ (l : List ℕ). map (moved (2 + c.source_count-first.result) c.node_bound.result) l) c.observed_points-2.ensures.observed ∙ (ap (λ (i : ℕ). map (moved (2 + i) c.node_bound.result) (net_of c.args.b.now).observed) c.source_count-first.ensures ∙ ap (λ (i : ℕ). map (moved (first_gate (net_of c.args.a.now)) i) (net_of c.args.b.now).observed) c.node_bound.ensures))))) ∙ e) in
    let is = ap (λ (n : Net). length n.nodes) c.requires.net in
    omega (arith, low, is)

pub add_comparisons-requires-clause-fits : goal.add_comparisons-requires-clause-fits
add_comparisons-requires-clause-fits c =
    subst (λ (n : Net). Fits n)
    (sym (places_made (net_of c.args.a.now) (net_of c.args.b.now) (net_of c.args.graph.now) (map (λ (n : NodeId). n.0) c.as_slice.result.now) (map (λ (n : NodeId). n.0) c.as_slice-2.result.now) c.requires.net (ap (λ (l : List NodeId). map (λ (n : NodeId). n.0) l) c.as_slice.ensures.value ∙ (c.in_ok-xs.ensures ∙ (ap (λ (l : List ℕ). map (moved (2 + c.source_count-first.result) (2 + c.source_count-first.result)) l) c.observed_points.ensures.observed ∙ list_stays (2 + c.source_count-first.result) (net_of c.args.a.now).observed))) (ap (λ (l : List NodeId). map (λ (n : NodeId). n.0) l) c.as_slice-2.ensures.value ∙ (c.in_ok-ys.ensures ∙ (ap (λ (l : List ℕ). map (moved (2 + c.source_count-first.result) c.node_bound.result) l) c.observed_points-2.ensures.observed ∙ (ap (λ (i : ℕ). map (moved (2 + i) c.node_bound.result) (net_of c.args.b.now).observed) c.source_count-first.ensures ∙ ap (λ (i : ℕ). map (moved (first_gate (net_of c.args.a.now)) i) (net_of c.args.b.now).observed) c.node_bound.ensures))))))
    (places_fit (net_of c.args.a.now) (net_of c.args.b.now) c.requires.small c.requires.other_small)

pub returns-clause-net : goal.returns-clause-net
returns-clause-net c =
    c.in_ok-tops.ensures.net ∙ places_made (net_of c.args.a.now) (net_of c.args.b.now) (net_of c.args.graph.now) (map (λ (n : NodeId). n.0) c.as_slice.result.now) (map (λ (n : NodeId). n.0) c.as_slice-2.result.now) c.requires.net (ap (λ (l : List NodeId). map (λ (n : NodeId). n.0) l) c.as_slice.ensures.value ∙ (c.in_ok-xs.ensures ∙ (ap (λ (l : List ℕ). map (moved (2 + c.source_count-first.result) (2 + c.source_count-first.result)) l) c.observed_points.ensures.observed ∙ list_stays (2 + c.source_count-first.result) (net_of c.args.a.now).observed))) (ap (λ (l : List NodeId). map (λ (n : NodeId). n.0) l) c.as_slice-2.ensures.value ∙ (c.in_ok-ys.ensures ∙ (ap (λ (l : List ℕ). map (moved (2 + c.source_count-first.result) c.node_bound.result) l) c.observed_points-2.ensures.observed ∙ (ap (λ (i : ℕ). map (moved (2 + i) c.node_bound.result) (net_of c.args.b.now).observed) c.source_count-first.ensures ∙ ap (λ (i : ℕ). map (moved (first_gate (net_of c.args.a.now)) i) (net_of c.args.b.now).observed) c.node_bound.ensures))))

pub returns-clause-last : goal.returns-clause-last
returns-clause-last c =
    c.in_ok-tops.ensures.last ∙ tops_made (net_of c.args.a.now) (net_of c.args.b.now) (net_of c.args.graph.now) (map (λ (n : NodeId). n.0) c.as_slice.result.now) (map (λ (n : NodeId). n.0) c.as_slice-2.result.now) c.requires.net (ap (λ (l : List NodeId). map (λ (n : NodeId). n.0) l) c.as_slice.ensures.value ∙ (c.in_ok-xs.ensures ∙ (ap (λ (l : List ℕ). map (moved (2 + c.source_count-first.result) (2 + c.source_count-first.result)) l) c.observed_points.ensures.observed ∙ list_stays (2 + c.source_count-first.result) (net_of c.args.a.now).observed))) (ap (λ (l : List NodeId). map (λ (n : NodeId). n.0) l) c.as_slice-2.ensures.value ∙ (c.in_ok-ys.ensures ∙ (ap (λ (l : List ℕ). map (moved (2 + c.source_count-first.result) c.node_bound.result) l) c.observed_points-2.ensures.observed ∙ (ap (λ (i : ℕ). map (moved (2 + i) c.node_bound.result) (net_of c.args.b.now).observed) c.source_count-first.ensures ∙ ap (λ (i : ℕ). map (moved (first_gate (net_of c.args.a.now)) i) (net_of c.args.b.now).observed) c.node_bound.ensures))))

pub returns-clause-whole : goal.returns-clause-whole
returns-clause-whole c = c.in_ok-tops.ensures.whole
