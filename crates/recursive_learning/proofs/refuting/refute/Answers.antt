use Rattle.std.proofs.Common.{subst}
use Rattle.gate_graph.specs.Circuit.{net_of}
use Rattle.implications.specs.declared.outcome.Closed.TheVariants.{Clash}
use Rattle.recursive_learning.proofs.Refutes.{refuting_exact}
use Rattle.recursive_learning.specs.Answers.{IsRefuting}
use Rattle.recursive_learning.proofs.refuting.refute.Goals as goal

pub returns-in_ok-short-in-Clash-clause-refuting : goal.returns-in_ok-short-in-Clash-clause-refuting
returns-in_ok-short-in-Clash-clause-refuting c =
    let whole : IsRefuting (net_of c.args.question.now.graph.now) c.args.question.now.fault c.args.depth (Clash c.in-Clash.tree) = subst (IsRefuting (net_of c.args.question.now.graph.now) c.args.question.now.fault c.args.depth) c.in-Clash.is c.in_ok-tree.ensures.refuting in
    (whole.0, c.in_ok-short-in-Clash.ensures.accepted whole.1)

pub returns-in_ok-short-in-Clash-clause-exact : goal.returns-in_ok-short-in-Clash-clause-exact
returns-in_ok-short-in-Clash-clause-exact c =
    let whole : IsRefuting (net_of c.args.question.now.graph.now) c.args.question.now.fault c.args.depth (Clash c.in-Clash.tree) = subst (IsRefuting (net_of c.args.question.now.graph.now) c.args.question.now.fault c.args.depth) c.in-Clash.is c.in_ok-tree.ensures.refuting in
    refuting_exact (net_of c.args.question.now.graph.now) c.args.question.now.fault c.args.depth (Clash c.in_ok-short-in-Clash.short) (whole.0, c.in_ok-short-in-Clash.ensures.accepted whole.1)
