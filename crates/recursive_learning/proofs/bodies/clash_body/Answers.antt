use Rattle.std.proofs.Common.{List, ap, map, ◌++◌, ◌∙◌}
use Rattle.gate_graph.specs.Circuit.{net_of}
use Rattle.recursive_learning.proofs.Servings.{clash_is}
use Rattle.recursive_learning.proofs.bodies.clash_body.Goals as goal
use Rattle.recursive_learning.specs.Inner.Telling.{line_item}
use Rattle.refutation.specs.declared.reasoning.Line.{Line}

pub returns : goal.returns
returns c =
    rw c.finish.ensures
    (clash_is (net_of c.args.question.now.graph.now) c.args.question.now.fault c.args.engine.now.lines c.requires.clash.0 c.args.node c.new-tree.result c.push_lines.new.tree c.push.new.self c.new-tree.ensures c.requires.clash.1
    (c.in_ok-push_lines.ensures ∙ ap (λ (lines : List Line). c.new-tree.result ++ map line_item lines) c.lines.ensures) c.in_ok-push.ensures.ok)
