use Rattle.gate_graph.specs.Circuit.{net_of}
use Rattle.refutation.specs.FactSets.{held_by}
use Rattle.refutation.proofs.Below.{answer_below}
use Rattle.refutation.proofs.concluding.conclude_along.Goals as goal

pub returns-clause-node : goal.returns-clause-node
returns-clause-node c =
    answer_below (net_of c.args.question.now.graph.now) c.args.question.now.fault (held_by c.args.facts.now) c.well_formed-2.ensures.net c.args.question.now.pin c.args.line.now c.concluded_along.result c.concluded_along.ensures.answer
