use Rattle.gate_graph.specs.Circuit.{net_of}
use Rattle.fault_decision.proofs.Keeping.{serves_on}
use Rattle.fault_decision.proofs.decider.search.Goals as goal

pub returns-clause-serves : goal.returns-clause-serves
returns-clause-serves c = serves_on (net_of c.args.question.now.graph.now) c.open.new.self c.decide_open.new.engine c.open.new.basis c.decide_open.new.facts c.decide_open.result c.open.ensures.serves c.decide_open.ensures.keeps
