use Rattle.gate_graph.specs.Circuit.{net_of}
use Rattle.refutation.specs.FactSets.{held_by}
use Rattle.refutation.proofs.concluding.concluded_near.Goals as goal

pub returns-in-Act : goal.returns-in-Act
returns-in-Act c = rw c.in-Act.is (c.line_act.ensures (held_by c.args.facts.now))

pub returns-in-Site : goal.returns-in-Site
returns-in-Site c = rw c.in-Site.is (c.line_site.ensures (net_of c.args.question.now.graph.now) (held_by c.args.facts.now))

pub returns-in-Constant : goal.returns-in-Constant
returns-in-Constant c = rw c.in-Constant.is (c.line_constant.ensures (held_by c.args.facts.now))
