use Rattle.std.proofs.Common.{List, ◌∙◌, ◌++◌, ◌∷◌, [], ap}
use Rattle.gate_graph.specs.Circuit.{net_of}
use Rattle.rm_base.specs.declared.numbers.NodeId.{NodeId}
use Rattle.rar_loop.proofs.Adding.{wire_changes}
use Rattle.rar_loop.proofs.trying.changed_nodes.Goals as goal

pub returns : goal.returns
returns c =
    let first = c.in_ok-push.ensures.items ∙ ap (λ (ns : List NodeId). ns ++ c.args.candidate.now.gate ∷ []) c.new-nodes.ensures.items in
    wire_changes (net_of c.args.graph.now) c.args.candidate.now c.least_free.result c.push-2.new.self.items (c.in_ok-push-2.ensures.items ∙ ap (λ (ns : List NodeId). ns ++ c.least_free.result ∷ []) first) c.least_free.ensures
