use Rattle.std.proofs.Common.{ap, arith, get_or, refl, ◌∙◌}
use Rattle.std.proofs.lemmas.Option.{slice_get-get_or}
use Rattle.gate_graph.specs.Circuit.{net_of}
use Rattle.gate_net.specs.Net.{Net}
use Rattle.rm_base.proofs.Public.{map_at}
use Rattle.rm_base.specs.declared.numbers.NodeId.{NodeId}
use Rattle.care_opt.proofs.GatingAnds.{live_still, nets_same, seen_end, seen_step}
use Rattle.care_opt.proofs.gating.observe_all.Goals as goal

abbrev zero_id : NodeId
zero_id = record { 0 = 0 }

pub observe-requires-clause-node : goal.observe-requires-clause-node
observe-requires-clause-node c =
    live_still (net_of c.args.graph.now) (net_of c.loop-at.graph) (get_or c.args.nodes.now c.loop-at.at zero_id).0 c.loop-at.invariant.nodes
    (c.requires.live c.loop-at.at (get_or c.args.nodes.now c.loop-at.at zero_id).0 (map_at (λ (n : NodeId). n.0) c.args.nodes.now c.loop-at.at (get_or c.args.nodes.now c.loop-at.at zero_id) (slice_get-get_or c.args.nodes.now c.loop-at.at zero_id c.loop-at-test.true)))

pub observe-requires-clause-pins : goal.observe-requires-clause-pins
observe-requires-clause-pins c = let is = c.loop-at.invariant.pins in let few = c.requires.pins in let low = c.loop-at-test.true in omega (arith, is, few, low)

pub loop-at-init : goal.loop-at-init
loop-at-init c = record { nodes = refl; seen = refl; pins = omega arith; live = refl; most = omega arith }

pub loop-at-preserved : goal.loop-at-preserved
loop-at-preserved c = record {
  nodes = ap (λ (n : Net). n.nodes) c.in_ok-observe.ensures.observed ∙ c.loop-at.invariant.nodes;
  seen =
      seen_step c.args.nodes.now c.loop-at.at (get_or c.args.nodes.now c.loop-at.at zero_id) (net_of c.loop-at.graph).observed (net_of c.observe.new.self).observed _
      (slice_get-get_or c.args.nodes.now c.loop-at.at zero_id c.loop-at-test.true) (ap (λ (n : Net). n.observed) c.in_ok-observe.ensures.observed) c.loop-at.invariant.seen;
  pins = let one = c.in_ok-observe.ensures.pins in let before = c.loop-at.invariant.pins in omega (arith, one, before);
  live = c.observe.ensures.nodes ∙ c.loop-at.invariant.live;
  most = let low = c.loop-at-test.true in omega (arith, low);
}

pub returns-clause-net : goal.returns-clause-net
returns-clause-net c = nets_same (net_of c.loop-at.graph) _ c.loop-at.invariant.nodes (seen_end c.args.nodes.now c.loop-at.at (net_of c.loop-at.graph).observed _ c.loop-at-test.false c.loop-at.invariant.seen)

pub returns-clause-pins : goal.returns-clause-pins
returns-clause-pins c = let is = c.loop-at.invariant.pins in let past = c.loop-at-test.false in let most = c.loop-at.invariant.most in omega (arith, is, past, most)

pub returns-clause-nodes : goal.returns-clause-nodes
returns-clause-nodes c = c.loop-at.invariant.live
