use Rattle.std.proofs.Common.{Some, inl, subst}
use Rattle.gate_graph.specs.Circuit.{net_of}
use Rattle.recursive_learning.proofs.Holdings.{goods_begun}
use Rattle.recursive_learning.proofs.Refutes.{open_settled}
use Rattle.recursive_learning.proofs.Servings.{for_keeps, level_of, level_some}
use Rattle.recursive_learning.proofs.refuter.learned_to.Goals as goal
use Rattle.recursive_learning.specs.Inner.Serving.{IsLevel}

pub deepen-requires-clause-settled : goal.deepen-requires-clause-settled
deepen-requires-clause-settled c = open_settled (net_of c.args.question.now.graph.now) c.args.question.now.fault c.args.engine.now.lines c.args.basis.now.facts c.well_formed-2.ensures.net c.args.question.now.pin c.requires.open

pub deepen-requires-clause-watching : goal.deepen-requires-clause-watching
deepen-requires-clause-watching c = inl c.forget.ensures.blank.all

pub deepen-requires-clause-goods : goal.deepen-requires-clause-goods
deepen-requires-clause-goods c = goods_begun (net_of c.args.question.now.graph.now) c.args.engine.now c.args.basis.now c.forget.new.self c.requires.serves

pub returns-in_default-clause-body : goal.returns-in_default-clause-body
returns-in_default-clause-body c =
    subst (IsLevel (net_of c.args.question.now.graph.now) c.args.question.now.fault c.args.depth c.deepen.new.facts) c.in_default.is
    (level_of (net_of c.args.question.now.graph.now) c.args.question.now.fault c.args.depth c.args.engine.now.lines c.args.basis.now.facts c.deepen.new.facts c.in_ok-found.found c.requires.open c.in_ok-found.ensures.keeps.size c.in_ok-found.ensures.deepened)

pub returns-in_default-clause-serves : goal.returns-in_default-clause-serves
returns-in_default-clause-serves c = for_keeps (net_of c.args.question.now.graph.now) c.args.engine.now c.deepen.new.engine c.args.basis.now c.deepen.new.facts c.in_ok-found.ensures.keeps c.requires.serves

pub body_at-requires-clause-serves : goal.body_at-requires-clause-serves
body_at-requires-clause-serves c = for_keeps (net_of c.args.question.now.graph.now) c.args.engine.now c.deepen.new.engine c.args.basis.now c.deepen.new.facts c.in_ok-found.ensures.keeps c.requires.serves

pub body_at-requires-clause-clash : goal.body_at-requires-clause-clash
body_at-requires-clause-clash c =
    let level : IsLevel (net_of c.args.question.now.graph.now) c.args.question.now.fault c.args.depth c.deepen.new.facts (Some c.in-Some.level) =
    subst (IsLevel (net_of c.args.question.now.graph.now) c.args.question.now.fault c.args.depth c.deepen.new.facts) c.in-Some.is
    (level_of (net_of c.args.question.now.graph.now) c.args.question.now.fault c.args.depth c.args.engine.now.lines c.args.basis.now.facts c.deepen.new.facts c.in_ok-found.found c.requires.open c.in_ok-found.ensures.keeps.size c.in_ok-found.ensures.deepened) in
    level.1

pub returns-clause-body : goal.returns-clause-body
returns-clause-body c = (
  level_some (net_of c.args.question.now.graph.now) c.args.question.now.fault c.args.depth c.deepen.new.facts c.in_ok-found.found c.in-Some.level c.in-Some.is
      (level_of (net_of c.args.question.now.graph.now) c.args.question.now.fault c.args.depth c.args.engine.now.lines c.args.basis.now.facts c.deepen.new.facts c.in_ok-found.found c.requires.open c.in_ok-found.ensures.keeps.size c.in_ok-found.ensures.deepened),
  c.in_ok-body.ensures.body,
)
