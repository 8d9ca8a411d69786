use Rattle.std.proofs.Common.{subst}
use Rattle.gate_graph.specs.Circuit.{net_of}
use Rattle.implications.specs.Outcomes.{IsClosing}
use Rattle.implications.specs.Trail.{LeadsBack}
use Rattle.recursive_learning.proofs.Holdings.{goods_first}
use Rattle.recursive_learning.proofs.Refutes.{open_leads, open_settled}
use Rattle.recursive_learning.proofs.refuting.tree_of.Goals as goal

pub write_closed-requires-clause-settled : goal.write_closed-requires-clause-settled
write_closed-requires-clause-settled c = open_settled (net_of c.args.question.now.graph.now) c.args.question.now.fault c.close.new.self.lines c.in-Open.facts c.well_formed-2.ensures.net c.args.question.now.pin (subst (IsClosing (net_of c.args.question.now.graph.now) c.args.question.now.fault c.close.new.self.lines) c.in-Open.is c.in_ok-tree.ensures.closing)

pub write_closed-requires-clause-lines : goal.write_closed-requires-clause-lines
write_closed-requires-clause-lines c = open_leads (net_of c.args.question.now.graph.now) c.args.question.now.fault c.close.new.self.lines c.in-Open.facts (subst (IsClosing (net_of c.args.question.now.graph.now) c.args.question.now.fault c.close.new.self.lines) c.in-Open.is c.in_ok-tree.ensures.closing)

pub take_back-requires : goal.take_back-requires
take_back-requires c =
    let h : LeadsBack c.write_closed.new.engine.trail c.mark-mark.result c.write_closed.new.facts c.in-Open.facts = c.in_ok-tree-in-Open.ensures.keeps.back c.mark-mark.result c.in-Open.facts (c.mark-mark.ensures.back c.in-Open.facts) in
    h.order

pub write_closed-requires-clause-goods : goal.write_closed-requires-clause-goods
write_closed-requires-clause-goods c = goods_first (net_of c.args.question.now.graph.now) c.args.question.now.fault c.begin_with.new.self c.close.new.self c.in-Open.facts c.mark-mark.result (open_settled (net_of c.args.question.now.graph.now) c.args.question.now.fault c.close.new.self.lines c.in-Open.facts c.well_formed-2.ensures.net c.args.question.now.pin (subst (IsClosing (net_of c.args.question.now.graph.now) c.args.question.now.fault c.close.new.self.lines) c.in-Open.is c.in_ok-tree.ensures.closing)) (c.mark-mark.ensures.back c.in-Open.facts) c.in_ok-begin_with-in-Open.ensures.first
