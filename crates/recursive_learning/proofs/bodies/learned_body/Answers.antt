use Rattle.std.proofs.Common.{List, ap, map, ◌++◌, ◌∙◌}
use Rattle.gate_graph.specs.Circuit.{net_of}
use Rattle.recursive_learning.proofs.Servings.{learned_is}
use Rattle.recursive_learning.proofs.bodies.learned_body.Goals as goal
use Rattle.recursive_learning.specs.Inner.Telling.{line_item}
use Rattle.refutation.specs.FactSets.{held_by}
use Rattle.refutation.specs.declared.reasoning.Line.{Line}

pub returns-clause-body : goal.returns-clause-body
returns-clause-body c =
    rw c.finish.ensures
    (learned_is (net_of c.args.question.now.graph.now) c.args.question.now.fault c.args.engine.now.lines (held_by c.args.facts.now) c.new-tree.result c.push_lines.new.tree c.write.new.tree c.new-tree.ensures c.requires.lines
    (c.in_ok-push_lines.ensures ∙ ap (λ (lines : List Line). c.new-tree.result ++ map line_item lines) c.lines.ensures) c.in_ok-write.ensures.ends)
