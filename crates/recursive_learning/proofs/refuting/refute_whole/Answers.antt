use Rattle.std.proofs.Common.{subst}
use Rattle.gate_graph.specs.Circuit.{net_of}
use Rattle.implications.specs.Outcomes.{IsClosing}
use Rattle.implications.specs.declared.outcome.Closed.TheVariants.{Clash}
use Rattle.recursive_learning.proofs.Refutes.{clashed_refutes, open_forced, open_settled, refuting_exact}
use Rattle.recursive_learning.proofs.refuting.refute_whole.Goals as goal

pub refute_open-requires-clause-settled : goal.refute_open-requires-clause-settled
refute_open-requires-clause-settled c = open_settled (net_of c.args.question.now.graph.now) c.args.question.now.fault c.close.new.self.lines c.in-Open.facts c.well_formed-2.ensures.net c.args.question.now.pin (subst (IsClosing (net_of c.args.question.now.graph.now) c.args.question.now.fault c.close.new.self.lines) c.in-Open.is c.in_ok-tree.ensures.closing)

pub refute_open-requires-clause-forced : goal.refute_open-requires-clause-forced
refute_open-requires-clause-forced c = open_forced (net_of c.args.question.now.graph.now) c.args.question.now.fault c.close.new.self.lines c.in-Open.facts (subst (IsClosing (net_of c.args.question.now.graph.now) c.args.question.now.fault c.close.new.self.lines) c.in-Open.is c.in_ok-tree.ensures.closing)

pub returns-in-Clash-clause-refuting : goal.returns-in-Clash-clause-refuting
returns-in-Clash-clause-refuting c = clashed_refutes (net_of c.args.question.now.graph.now) c.args.question.now.fault c.args.depth c.close.new.self.lines c.in-Clash.tree (subst (IsClosing (net_of c.args.question.now.graph.now) c.args.question.now.fault c.close.new.self.lines) c.in-Clash.is c.in_ok-tree.ensures.closing)

pub returns-in-Clash-clause-exact : goal.returns-in-Clash-clause-exact
returns-in-Clash-clause-exact c = refuting_exact (net_of c.args.question.now.graph.now) c.args.question.now.fault c.args.depth (Clash c.in-Clash.tree) (clashed_refutes (net_of c.args.question.now.graph.now) c.args.question.now.fault c.args.depth c.close.new.self.lines c.in-Clash.tree (subst (IsClosing (net_of c.args.question.now.graph.now) c.args.question.now.fault c.close.new.self.lines) c.in-Clash.is c.in_ok-tree.ensures.closing))
