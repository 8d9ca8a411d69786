use Rattle.refutation.proofs.FactMarks.{inserted, insert_less, none}
use Rattle.refutation.proofs.held.FactSet.insert.Goals as goal

pub returns-clause-facts : goal.returns-clause-facts
returns-clause-facts c = rw (c.write_mark.ensures none, ← c.self.view_is) (inserted c.self.inside.nodes.items c.args.node.0 none c.args.fact (rw (← c.self.view_is) at c.requires))

pub returns-clause-missing : goal.returns-clause-missing
returns-clause-missing c e = rw (c.write_mark.ensures none, ← c.self.view_is) (insert_less c.self.inside.nodes.items c.args.node.0 none c.args.fact (rw (← c.self.view_is) at c.requires) (rw (← c.self.view_is) at e))
