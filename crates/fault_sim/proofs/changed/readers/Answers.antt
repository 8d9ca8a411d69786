use Rattle.std.proofs.Common.{List, ap, map, ◌++◌, ◌∙◌, ◌∷◌, []}
use Rattle.gate_graph.specs.Circuit.{fanouts_of}
use Rattle.refutation.proofs.Public.{yielded_more}
use Rattle.rm_base.specs.declared.numbers.NodeId.{NodeId}
use Rattle.fault_sim.proofs.changed.readers.Goals as goal
use Rattle.gate_graph.proofs.Public.{reads_listed}
use Rattle.rm_base.proofs.Public.{yielded_whole}

pub loop-reader-preserved : goal.loop-reader-preserved
loop-reader-preserved c = record {
  all = yielded_more (λ n. n.0) (map (λ place. place.0) (fanouts_of c.args.graph.now c.args.node.0)) c.loop-reader.yielded c.in-Some.reader _ _ c.loop-reader.invariant.all c.in-Some.ensures.steps;
  nodes = c.in_ok-push.ensures.items ∙ ap (λ (ns : List NodeId). ns ++ c.in-Some.reader ∷ []) c.loop-reader.invariant.nodes;
}

pub returns : goal.returns
returns c z p reads =
    let there = reads_listed c.args.graph.now c.args.node.0 c.readers_listed.ensures z p reads in
    let all = yielded_whole (λ n. n.0) (map (λ place. place.0) (fanouts_of c.args.graph.now c.args.node.0)) c.loop-reader.yielded _ c.loop-reader.invariant.all c.in-None.ensures.steps.0 in
    (there.0, rw (c.loop-reader.invariant.nodes) (rw all at there.1))
