use Rattle.std.proofs.Common.{List, ap, arith, get_or, length, map, refl, ◌++◌, ◌∙◌, sym}
use Rattle.std.proofs.lemmas.Option.{slice_get-get_or}
use Rattle.gate_graph.specs.Circuit.{net_of}
use Rattle.rm_base.proofs.Public.{map_at}
use Rattle.rm_base.specs.declared.numbers.NodeId.{NodeId}
use Rattle.joined_nets.specs.Growing.{live, with_nodes}
use Rattle.care_opt.specs.Gated.{gates_by, numbers_from}
use Rattle.care_opt.proofs.GatingAnds.{gate_fits, gate_longer, gate_step, gates_end, numbers_end, numbers_step, two_below}
use Rattle.care_opt.proofs.gating.add_gating.Goals as goal

abbrev zero_id : NodeId
zero_id = record { 0 = 0 }

pub add_last-requires-clause-drivers : goal.add_last-requires-clause-drivers
add_last-requires-clause-drivers c = λ d among.
    let low = c.requires.nodes c.loop-at.at (get_or c.args.nodes.now c.loop-at.at zero_id).0 (map_at (λ (n : NodeId). n.0) c.args.nodes.now c.loop-at.at (get_or c.args.nodes.now c.loop-at.at zero_id) (slice_get-get_or c.args.nodes.now c.loop-at.at zero_id c.loop-at-test.true)) in
    let longer = c.loop-at.invariant.longer in
    let care = c.requires.care in
    two_below d (get_or c.args.nodes.now c.loop-at.at zero_id).0 c.args.care.0 (length (net_of c.loop-at.graph).nodes) (omega (arith, low, longer)) (omega (arith, care, longer)) among

pub add_last-requires-clause-fits : goal.add_last-requires-clause-fits
add_last-requires-clause-fits c =
    gate_fits c.args.nodes.now c.loop-at.at c.args.care.0 (get_or c.args.nodes.now c.loop-at.at zero_id) (slice_get-get_or c.args.nodes.now c.loop-at.at zero_id c.loop-at-test.true) (net_of c.loop-at.graph)
    (with_nodes (net_of c.args.graph.now) (live (gates_by c.args.care.0 (map (λ (n : NodeId). n.0) c.args.nodes.now)))) c.loop-at.invariant.left c.requires.fits

pub loop-at-init : goal.loop-at-init
loop-at-init c = record {
  whole = c.requires.whole;
  longer = omega arith;
  left = refl;
  made = ap (λ (l : List NodeId). map (λ (n : NodeId). n.0) l ++ numbers_from (length (net_of c.args.graph.now).nodes) (map (λ (n : NodeId). n.0) c.args.nodes.now)) c.new-gates.ensures.items;
}

pub loop-at-preserved : goal.loop-at-preserved
loop-at-preserved c = record {
  whole = c.in_ok-gate.ensures.whole;
  longer =
      let more = gate_longer c.args.nodes.now c.loop-at.at c.args.care.0 (get_or c.args.nodes.now c.loop-at.at zero_id) (slice_get-get_or c.args.nodes.now c.loop-at.at zero_id c.loop-at-test.true) (net_of c.loop-at.graph)
      (with_nodes (net_of c.args.graph.now) (live (gates_by c.args.care.0 (map (λ (n : NodeId). n.0) c.args.nodes.now)))) c.loop-at.invariant.left (net_of c.add_last.new.graph) c.in_ok-gate.ensures.net in
      let before = c.loop-at.invariant.longer in omega (arith, more, before);
  left =
      gate_step c.args.nodes.now c.loop-at.at c.args.care.0 (get_or c.args.nodes.now c.loop-at.at zero_id) (slice_get-get_or c.args.nodes.now c.loop-at.at zero_id c.loop-at-test.true) (net_of c.loop-at.graph)
      (with_nodes (net_of c.args.graph.now) (live (gates_by c.args.care.0 (map (λ (n : NodeId). n.0) c.args.nodes.now)))) c.loop-at.invariant.left (net_of c.add_last.new.graph) c.in_ok-gate.ensures.net;
  made =
      numbers_step c.args.nodes.now c.loop-at.at c.args.care.0 (get_or c.args.nodes.now c.loop-at.at zero_id) (slice_get-get_or c.args.nodes.now c.loop-at.at zero_id c.loop-at-test.true) (net_of c.loop-at.graph)
      (with_nodes (net_of c.args.graph.now) (live (gates_by c.args.care.0 (map (λ (n : NodeId). n.0) c.args.nodes.now)))) c.loop-at.invariant.left (net_of c.add_last.new.graph) c.in_ok-gate.ensures.net
      c.loop-at.gates.items c.push.new.self.items c.in_ok-gate.gate (numbers_from (length (net_of c.args.graph.now).nodes) (map (λ (n : NodeId). n.0) c.args.nodes.now)) c.in_ok-push.ensures.items c.in_ok-gate.ensures.number c.loop-at.invariant.made;
}

pub returns-clause-net : goal.returns-clause-net
returns-clause-net c = sym (gates_end (net_of c.loop-at.graph) c.args.care.0 c.args.nodes.now c.loop-at.at c.loop-at-test.false) ∙ c.loop-at.invariant.left

pub returns-clause-gates : goal.returns-clause-gates
returns-clause-gates c = sym (numbers_end (map (λ (n : NodeId). n.0) c.loop-at.gates.items) (length (net_of c.loop-at.graph).nodes) c.args.nodes.now c.loop-at.at c.loop-at-test.false) ∙ c.loop-at.invariant.made

pub returns-clause-whole : goal.returns-clause-whole
returns-clause-whole c = c.loop-at.invariant.whole
