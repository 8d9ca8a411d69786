use Rattle.std.proofs.Common.{arith, map, refl, ◌∙◌}
use Rattle.std.proofs.lemmas.List.{length-map}
use Rattle.std.proofs.lemmas.Option.{slice_get-get_or}
use Rattle.gate_graph.specs.Circuit.{net_of}
use Rattle.implications.proofs.Refitting.{number_at, refits_all, refits_first, refits_next}
use Rattle.implications.proofs.following.refit_nodes.Goals as goal
use Rattle.rm_base.specs.declared.numbers.NodeId.{NodeId}

pub loop-node-init : goal.loop-node-init
loop-node-init c = record {
  refits = λ before rest. refits_first before (net_of c.args.graph.now) (map (λ (n : NodeId). n.0) c.args.nodes.now) c.args.facts.now rest;
  size = refl;
}

pub loop-node-preserved : goal.loop-node-preserved
loop-node-preserved c = record {
  refits = λ before rest.
      refits_next before (net_of c.args.graph.now) (map (λ (n : NodeId). n.0) c.args.nodes.now) c.loop-node.node-index _ c.loop-node.facts c.refit_node.new.facts
      (number_at c.args.nodes.now c.loop-node.node-index _ (slice_get-get_or c.args.nodes.now c.loop-node.node-index _ c.loop-node-test.true)) c.refit_node.ensures.refitted (c.loop-node.invariant.refits before rest);
  size = c.refit_node.ensures.size ∙ c.loop-node.invariant.size;
}

pub returns-clause-rest : goal.returns-clause-rest
returns-clause-rest c = λ before rest same.
    let xs = map (λ (n : NodeId). n.0) c.args.nodes.now in
    refits_all before (net_of c.args.graph.now) xs c.loop-node.node-index c.loop-node.facts (omega (arith, length-map c.args.nodes.now (λ (n : NodeId). n.0), c.loop-node-test.false)) same (c.loop-node.invariant.refits before rest)
