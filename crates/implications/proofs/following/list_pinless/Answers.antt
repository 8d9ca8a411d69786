use Rattle.std.proofs.Common.{Global, Vec, ap, subst, sym, ◌+◌, ◌∙◌}
use Rattle.std.proofs.lemmas.Option.{slice_get-get_or}
use Rattle.gate_graph.specs.Circuit.{net_of}
use Rattle.implications.proofs.Refitting.{ListsFirst, lists_all, lists_first, lists_push, lists_skip}
use Rattle.rm_base.specs.declared.numbers.NodeId.{NodeId}
use Rattle.implications.proofs.following.list_pinless.Goals as goal
use Rattle.implications.proofs.following.list_pinless.Goals.{then-is_pinless+in_ok-push, else-is_pinless}

pub loop-node-init : goal.loop-node-init
loop-node-init c = lists_first (net_of c.args.graph.now) c.args.nodes.now c.args.pinless.now.items c.requires

pub loop-node-preserved : goal.loop-node-preserved
loop-node-preserved c = elim c.if-is_pinless.branch [
  | then-is_pinless+in_ok-push w ↦ lists_push (net_of c.args.graph.now) c.args.nodes.now c.loop-node.node-index _ c.args.pinless.now.items c.loop-node.pinless.items c.if-is_pinless.pinless.items (slice_get-get_or c.args.nodes.now c.loop-node.node-index _ c.loop-node-test.true) (c.is_pinless.ensures.0 w.if-is_pinless.true) (ap (λ (v : Vec NodeId Global). v.items) w.pinless-is ∙ w.in_ok-push.ensures.items) c.loop-node.invariant
  | else-is_pinless w ↦ subst (ListsFirst (net_of c.args.graph.now) c.args.nodes.now (c.loop-node.node-index + 1) c.args.pinless.now.items) (ap (λ (v : Vec NodeId Global). v.items) (sym w.pinless-is)) (lists_skip (net_of c.args.graph.now) c.args.nodes.now c.loop-node.node-index _ c.args.pinless.now.items c.loop-node.pinless.items (slice_get-get_or c.args.nodes.now c.loop-node.node-index _ c.loop-node-test.true) (λ p. (let wrong = c.is_pinless.ensures.1 p in let off = w.if-is_pinless.false in cc)) c.loop-node.invariant)
]

pub returns-clause-all : goal.returns-clause-all
returns-clause-all c = lists_all (net_of c.args.graph.now) c.args.nodes.now c.loop-node.node-index c.args.pinless.now.items c.loop-node.pinless.items c.loop-node-test.false c.loop-node.invariant
