use Rattle.gate_graph.specs.Circuit.{net_of}
use Rattle.care_opt.proofs.Refuted.{if_some, set_of, tree_of}
use Rattle.care_opt.proofs.closing.judged.Goals as goal

pub returns-then-refuted-clause-refuted : goal.returns-then-refuted-clause-refuted
returns-then-refuted-clause-refuted c = λ none. tree_of (net_of c.args.question.now.graph.now) c.args.question.now.fault c.args.depth c.in_ok-refuted.refuted c.if-refuted.true c.in_ok-refuted.ensures.looked

pub returns-clause-unrefuted : goal.returns-clause-unrefuted
returns-clause-unrefuted c = if_some c.in_ok-found.found (set_of (net_of c.args.question.now.graph.now) c.args.question.now.fault c.args.depth c.in_ok-refuted.refuted c.if-refuted.false c.in_ok-refuted.ensures.looked)
