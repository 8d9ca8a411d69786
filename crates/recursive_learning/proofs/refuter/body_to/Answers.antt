use Rattle.std.proofs.Common.{Some, refl}
use Rattle.gate_graph.specs.Circuit.{net_of}
use Rattle.recursive_learning.proofs.Servings.{level_first, level_some, opened_none, opened_some}
use Rattle.recursive_learning.proofs.refuter.body_to.Goals as goal

pub learned_to-requires-clause-open : goal.learned_to-requires-clause-open
learned_to-requires-clause-open c = opened_none (net_of c.args.question.now.graph.now) c.args.question.now.fault c.open.new.self.lines c.open.new.basis.facts c.in_ok-node.field-0 c.in_default.is c.in_ok-node.ensures.opened

pub returns-in-Some-clause-body : goal.returns-in-Some-clause-body
returns-in-Some-clause-body c = (
  level_some (net_of c.args.question.now.graph.now) c.args.question.now.fault c.args.depth c.open.new.basis.facts (Some 0) 0 refl
      (level_first (net_of c.args.question.now.graph.now) c.args.question.now.fault c.args.depth c.open.new.self.lines c.open.new.basis.facts c.in-Some.node.0
      (opened_some (net_of c.args.question.now.graph.now) c.args.question.now.fault c.open.new.self.lines c.open.new.basis.facts c.in_ok-node.field-0 c.in-Some.node c.in-Some.is c.in_ok-node.ensures.opened)),
  c.in_ok-body.ensures,
)
