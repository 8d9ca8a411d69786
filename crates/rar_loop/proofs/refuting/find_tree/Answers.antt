use Rattle.gate_graph.specs.Circuit.{net_of}
use Rattle.rar_loop.proofs.Looking.{looked_of}
use Rattle.rar_loop.proofs.refuting.find_tree.Goals as goal

pub returns-clause-looked : goal.returns-clause-looked
returns-clause-looked c = looked_of (net_of c.args.question.now.graph.now) c.args.question.now.fault c.args.depth c.refute.new.self.basis.facts c.in_ok-tree.tree c.in_ok-tree.ensures.refuted
