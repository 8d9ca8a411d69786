use Rattle.std.proofs.Common.{List, ap, ◌++◌, ◌∙◌}
use Rattle.gate_graph.specs.Circuit.{net_of}
use Rattle.recursive_learning.proofs.Servings.{body_accepted}
use Rattle.recursive_learning.proofs.bodies.whole_tree.Goals as goal
use Rattle.refutation.specs.declared.items.Item.{Item}

pub returns-clause-accepted : goal.returns-clause-accepted
returns-clause-accepted c =
    rw c.finish.ensures
    (body_accepted (net_of c.args.question.now.graph.now) c.args.question.now.fault c.new-tree.result c.push_outside.new.tree c.args.body.now c.push_items.new.tree c.new-tree.ensures c.in_ok-push_outside.ensures.appends c.requires.body
    (c.in_ok-push_items.ensures ∙ ap (λ (items : List Item). c.push_outside.new.tree ++ items) c.items.ensures))
