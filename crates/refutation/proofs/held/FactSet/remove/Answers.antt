use Rattle.refutation.proofs.FactMarks.{removed, none}
use Rattle.refutation.proofs.held.FactSet.remove.Goals as goal

pub returns : goal.returns
returns c = rw (c.write_mark.ensures none, ← c.self.view_is) (removed c.self.inside.nodes.items c.args.node.0 none c.args.fact (rw (← c.self.view_is) at c.requires))
