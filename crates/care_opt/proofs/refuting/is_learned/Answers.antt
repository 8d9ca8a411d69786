use Rattle.gate_graph.specs.Circuit.{net_of}
use Rattle.care_opt.proofs.Refuted.{looked_none, looked_some}
use Rattle.care_opt.proofs.refuting.is_learned.Goals as goal

pub returns-in-Some-clause-looked : goal.returns-in-Some-clause-looked
returns-in-Some-clause-looked c = looked_some (net_of c.args.question.now.graph.now) c.args.question.now.fault c.args.depth c.refute.new.self.basis.facts c.in_ok-tree.tree c.in-Some._tree c.in-Some.is c.in_ok-tree.ensures.refuted

pub returns-in-None-clause-looked : goal.returns-in-None-clause-looked
returns-in-None-clause-looked c = looked_none (net_of c.args.question.now.graph.now) c.args.question.now.fault c.args.depth c.refute.new.self.basis.facts c.in_ok-tree.tree c.in-None.is c.in_ok-tree.ensures.refuted
