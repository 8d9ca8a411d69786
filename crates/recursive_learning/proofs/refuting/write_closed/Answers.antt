use Rattle.std.proofs.Common.{List, ap, map, ◌++◌, ◌∙◌}
use Rattle.gate_graph.specs.Circuit.{net_of}
use Rattle.recursive_learning.proofs.Holdings.{goods_same}
use Rattle.recursive_learning.proofs.Refutes.{written_accepted}
use Rattle.recursive_learning.proofs.Servings.{keeps_from}
use Rattle.recursive_learning.specs.Inner.Telling.{line_item}
use Rattle.refutation.specs.FactSets.{held_by}
use Rattle.refutation.specs.declared.reasoning.Line.{Line}
use Rattle.recursive_learning.proofs.refuting.write_closed.Goals as goal

pub returns-clause-accepted : goal.returns-clause-accepted
returns-clause-accepted c =
    rw c.finish.ensures
    (written_accepted (net_of c.args.question.now.graph.now) c.args.question.now.fault c.args.engine.now.lines (held_by c.args.facts.now) c.new-tree.result c.push_outside.new.tree c.push_lines.new.tree c.write.new.tree c.new-tree.ensures c.in_ok-push_outside.ensures.appends c.requires.lines
    (c.in_ok-push_lines.ensures ∙ ap (λ (lines : List Line). c.push_outside.new.tree ++ map line_item lines) (c.lines.ensures ∙ c.push_outside.ensures.lines)) c.in_ok-write.ensures.ends)

pub returns-clause-keeps : goal.returns-clause-keeps
returns-clause-keeps c = keeps_from c.args.engine.now c.push_outside.new.self c.write.new.engine c.args.facts.now c.write.new.facts c.push_outside.ensures.numbers c.push_outside.ensures.trail c.in_ok-write.ensures.keeps

pub write-requires-clause-goods : goal.write-requires-clause-goods
write-requires-clause-goods c = goods_same c.args.watch.now c.args.engine.now c.push_outside.new.self c.args.facts.now c.push_outside.ensures.trail c.requires.goods
