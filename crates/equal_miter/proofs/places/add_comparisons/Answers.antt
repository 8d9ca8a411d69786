use Rattle.std.proofs.Common.{List, ap, arith, get_or, length, map, refl, sym, ◌++◌, ◌∙◌}
use Rattle.std.proofs.lemmas.Option.{slice_get-get_or}
use Rattle.gate_graph.specs.Circuit.{net_of}
use Rattle.rm_base.proofs.Public.{map_at}
use Rattle.rm_base.specs.declared.numbers.NodeId.{NodeId}
use Rattle.joined_nets.specs.Growing.{live, with_nodes}
use Rattle.equal_miter.specs.Miter.{comparisons, differences}
use Rattle.equal_miter.proofs.Pairs.{five_more, pair_fits, pair_step, pairs_end, tops_end, tops_step}
use Rattle.equal_miter.proofs.places.add_comparisons.Goals as goal

abbrev zero_id : NodeId
zero_id = record { 0 = 0 }

pub bounds-ys-at : goal.bounds-ys-at
bounds-ys-at c = let low = c.loop-at-test.true in let pairs = c.requires.pairs in omega (arith, low, pairs)

pub add_comparison-requires-clause-ours : goal.add_comparison-requires-clause-ours
add_comparison-requires-clause-ours c =
    let low = c.requires.ours c.loop-at.at (get_or c.args.xs.now c.loop-at.at zero_id).0 (map_at (λ (n : NodeId). n.0) c.args.xs.now c.loop-at.at (get_or c.args.xs.now c.loop-at.at zero_id) (slice_get-get_or c.args.xs.now c.loop-at.at zero_id c.loop-at-test.true)) in
    let longer = c.loop-at.invariant.longer in
    omega (arith, low, longer)

pub add_comparison-requires-clause-theirs : goal.add_comparison-requires-clause-theirs
add_comparison-requires-clause-theirs c =
    let low = c.requires.theirs c.loop-at.at (get_or c.args.ys.now c.loop-at.at zero_id).0 (map_at (λ (n : NodeId). n.0) c.args.ys.now c.loop-at.at (get_or c.args.ys.now c.loop-at.at zero_id) (slice_get-get_or c.args.ys.now c.loop-at.at zero_id (let low = c.loop-at-test.true in let pairs = c.requires.pairs in omega (arith, low, pairs)))) in
    let longer = c.loop-at.invariant.longer in
    omega (arith, low, longer)

pub add_comparison-requires-clause-fits : goal.add_comparison-requires-clause-fits
add_comparison-requires-clause-fits c = pair_fits c.args.xs.now c.args.ys.now c.loop-at.at (get_or c.args.xs.now c.loop-at.at zero_id) (get_or c.args.ys.now c.loop-at.at zero_id) (slice_get-get_or c.args.xs.now c.loop-at.at zero_id c.loop-at-test.true) (slice_get-get_or c.args.ys.now c.loop-at.at zero_id (let low = c.loop-at-test.true in let pairs = c.requires.pairs in omega (arith, low, pairs))) (net_of c.loop-at.graph) (with_nodes (net_of c.args.graph.now) (live (comparisons (length (net_of c.args.graph.now).nodes) (map (λ (n : NodeId). n.0) c.args.xs.now) (map (λ (n : NodeId). n.0) c.args.ys.now)))) c.loop-at.invariant.left c.requires.fits

pub loop-at-init : goal.loop-at-init
loop-at-init c = record {
  whole = c.requires.whole;
  longer = omega arith;
  left = refl;
  tops = ap (λ (l : List NodeId). map (λ (n : NodeId). n.0) l ++ differences (length (net_of c.args.graph.now).nodes) (map (λ (n : NodeId). n.0) c.args.xs.now) (map (λ (n : NodeId). n.0) c.args.ys.now)) c.new-tops.ensures.items;
}

pub loop-at-preserved : goal.loop-at-preserved
loop-at-preserved c = record {
  whole = c.in_ok-top.ensures.whole;
  longer = let more = five_more c.args.xs.now c.args.ys.now c.loop-at.at (get_or c.args.xs.now c.loop-at.at zero_id) (get_or c.args.ys.now c.loop-at.at zero_id) (slice_get-get_or c.args.xs.now c.loop-at.at zero_id c.loop-at-test.true) (slice_get-get_or c.args.ys.now c.loop-at.at zero_id (let low = c.loop-at-test.true in let pairs = c.requires.pairs in omega (arith, low, pairs))) (net_of c.loop-at.graph) (with_nodes (net_of c.args.graph.now) (live (comparisons (length (net_of c.args.graph.now).nodes) (map (λ (n : NodeId). n.0) c.args.xs.now) (map (λ (n : NodeId). n.0) c.args.ys.now)))) c.loop-at.invariant.left (net_of c.add_comparison.new.graph) c.in_ok-top.ensures.net in let before = c.loop-at.invariant.longer in omega (arith, more, before);
  left = pair_step c.args.xs.now c.args.ys.now c.loop-at.at (get_or c.args.xs.now c.loop-at.at zero_id) (get_or c.args.ys.now c.loop-at.at zero_id) (slice_get-get_or c.args.xs.now c.loop-at.at zero_id c.loop-at-test.true) (slice_get-get_or c.args.ys.now c.loop-at.at zero_id (let low = c.loop-at-test.true in let pairs = c.requires.pairs in omega (arith, low, pairs))) (net_of c.loop-at.graph) (with_nodes (net_of c.args.graph.now) (live (comparisons (length (net_of c.args.graph.now).nodes) (map (λ (n : NodeId). n.0) c.args.xs.now) (map (λ (n : NodeId). n.0) c.args.ys.now)))) c.loop-at.invariant.left (net_of c.add_comparison.new.graph) c.in_ok-top.ensures.net;
  tops =
      tops_step c.args.xs.now c.args.ys.now c.loop-at.at (get_or c.args.xs.now c.loop-at.at zero_id) (get_or c.args.ys.now c.loop-at.at zero_id) (slice_get-get_or c.args.xs.now c.loop-at.at zero_id c.loop-at-test.true) (slice_get-get_or c.args.ys.now c.loop-at.at zero_id (let low = c.loop-at-test.true in let pairs = c.requires.pairs in omega (arith, low, pairs))) (net_of c.loop-at.graph) (with_nodes (net_of c.args.graph.now) (live (comparisons (length (net_of c.args.graph.now).nodes) (map (λ (n : NodeId). n.0) c.args.xs.now) (map (λ (n : NodeId). n.0) c.args.ys.now)))) c.loop-at.invariant.left (net_of c.add_comparison.new.graph) c.in_ok-top.ensures.net c.loop-at.tops.items c.push.new.self.items c.in_ok-top.top (differences (length (net_of c.args.graph.now).nodes) (map (λ (n : NodeId). n.0) c.args.xs.now) (map (λ (n : NodeId). n.0) c.args.ys.now))
      c.in_ok-push.ensures.items c.in_ok-top.ensures.last c.loop-at.invariant.tops;
}

pub returns-clause-net : goal.returns-clause-net
returns-clause-net c = sym (pairs_end (net_of c.loop-at.graph) c.args.xs.now c.args.ys.now c.loop-at.at c.loop-at-test.false) ∙ c.loop-at.invariant.left

pub returns-clause-last : goal.returns-clause-last
returns-clause-last c = sym (tops_end (map (λ (n : NodeId). n.0) c.loop-at.tops.items) (length (net_of c.loop-at.graph).nodes) c.args.xs.now c.args.ys.now c.loop-at.at c.loop-at-test.false) ∙ c.loop-at.invariant.tops

pub returns-clause-whole : goal.returns-clause-whole
returns-clause-whole c = c.loop-at.invariant.whole
