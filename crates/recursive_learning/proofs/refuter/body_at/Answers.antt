use Rattle.gate_graph.specs.Circuit.{net_of}
use Rattle.recursive_learning.proofs.Holdings.{goods_begun}
use Rattle.recursive_learning.proofs.Refutes.{open_settled}
use Rattle.recursive_learning.proofs.Servings.{for_on_ok, opened_none}
use Rattle.recursive_learning.proofs.refuter.body_at.Goals as goal

pub learned_body-requires-clause-settled : goal.learned_body-requires-clause-settled
learned_body-requires-clause-settled c = open_settled (net_of c.args.question.now.graph.now) c.args.question.now.fault c.open.new.self.lines c.open.new.basis.facts c.well_formed-2.ensures.net c.args.question.now.pin (opened_none (net_of c.args.question.now.graph.now) c.args.question.now.fault c.open.new.self.lines c.open.new.basis.facts c.in_ok-node.field-0 c.in_default.is c.in_ok-node.ensures.opened)

pub returns-clause-serves : goal.returns-clause-serves
returns-clause-serves c = for_on_ok (net_of c.args.question.now.graph.now) c.open.new.self c.learned_body.new.engine c.open.new.basis c.learned_body.new.facts c.learned_body.result c.open.ensures.serves c.learned_body.ensures.keeps

pub learned_body-requires-clause-goods : goal.learned_body-requires-clause-goods
learned_body-requires-clause-goods c = goods_begun (net_of c.args.question.now.graph.now) c.open.new.self c.open.new.basis c.forget.new.self c.open.ensures.serves
