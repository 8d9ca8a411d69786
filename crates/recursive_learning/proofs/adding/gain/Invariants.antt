use Rattle.gate_graph.specs.Circuit.{net_of}
use Rattle.recursive_learning.proofs.Gains.{Gaining}
use Rattle.recursive_learning.proofs.adding.gain.Given as goal

abbrev pub invariant-loop-good : goal.invariant-loop-good
invariant-loop-good l = Gaining (net_of l.question.graph.now) l.question.fault l.goods l.good-index l.initial.engine l.engine l.initial.facts l.facts
