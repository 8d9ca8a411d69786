use Rattle.gate_graph.specs.Circuit.{net_of}
use Rattle.implications.proofs.Steps.{tallied_by}
use Rattle.implications.proofs.settling.add_found.Goals as goal

pub returns-clause-tallied : goal.returns-clause-tallied
returns-clause-tallied c =
    tallied_by (net_of c.args.question.now.graph.now) c.args.facts.now c.hold.new.facts c.args.found.node.0 c.args.found.fact c.args.question.now.fault.position c.touch.new.tallies c.in_ok-hold.ensures.holds.facts c.touch.ensures.tallied
