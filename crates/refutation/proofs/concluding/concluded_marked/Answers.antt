use Rattle.gate_graph.specs.Circuit.{net_of}
use Rattle.refutation.specs.FactSets.{held_by}
use Rattle.refutation.proofs.NearLines.{near_answer}
use Rattle.refutation.proofs.concluding.concluded_marked.Goals as goal

pub returns-in-Chain : goal.returns-in-Chain
returns-in-Chain c = rw c.in-Chain.is (c.line_chain_marked.ensures (held_by c.args.facts.now))

pub returns-in-Out : goal.returns-in-Out
returns-in-Out c = rw c.in-Out.is (c.line_out_marked.ensures (held_by c.args.facts.now))

pub returns-in_default : goal.returns-in_default
returns-in_default c =
    near_answer (net_of c.args.question.now.graph.now) c.args.question.now.fault (held_by c.args.facts.now) c.args.line.now c.concluded_near.result c.in_default.not-Chain c.in_default.not-Out c.concluded_near.ensures
