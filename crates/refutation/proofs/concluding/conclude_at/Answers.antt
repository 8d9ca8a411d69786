use Rattle.gate_graph.specs.Circuit.{net_of}
use Rattle.refutation.specs.FactSets.{held_by}
use Rattle.refutation.proofs.NearLines.{near_answer}
use Rattle.refutation.proofs.concluding.conclude_at.Goals as goal

pub returns-in-Chain-clause-answer : goal.returns-in-Chain-clause-answer
returns-in-Chain-clause-answer c = rw c.in-Chain.is (c.line_chain.ensures (held_by c.args.facts.now))

pub returns-in-Out-clause-answer : goal.returns-in-Out-clause-answer
returns-in-Out-clause-answer c = rw c.in-Out.is (c.line_out.ensures.answer (held_by c.args.facts.now))

pub returns-in_default-clause-answer : goal.returns-in_default-clause-answer
returns-in_default-clause-answer c =
    near_answer (net_of c.args.question.now.graph.now) c.args.question.now.fault (held_by c.args.facts.now) c.args.line.now c.concluded_near.result c.in_default.not-Chain c.in_default.not-Out c.concluded_near.ensures
