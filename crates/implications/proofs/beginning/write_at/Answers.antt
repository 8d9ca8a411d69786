use Rattle.gate_graph.specs.Circuit.{net_of}
use Rattle.implications.proofs.Begins.{answer_some}
use Rattle.implications.proofs.BeginsOutside.{answer_never, writes_more, writes_skip}
use Rattle.implications.proofs.Closes.{works_ok}
use Rattle.implications.proofs.beginning.write_at.Goals as goal
use Rattle.refutation.specs.Facts.{none_held}
use Rattle.refutation.specs.declared.reasoning.Line.TheVariants.{Out}

pub returns-in_default : goal.returns-in_default
returns-in_default c before w =
    writes_skip (net_of c.args.question.now.graph.now) c.args.question.now.fault c.args.node.0 before c.args.tree.now w
    (answer_never (net_of c.args.question.now.graph.now) c.args.question.now.fault none_held (Out c.args.node) c.line_out_marked.result c.in_default.is (c.line_out_marked.ensures none_held))

pub returns : goal.returns
returns c =
    works_ok _ _ c.push.result (λ is before w.
    writes_more (net_of c.args.question.now.graph.now) c.args.question.now.fault c.args.node.0 before c.args.tree.now c.push.new.self c.in-Some._outside.0 c.in-Some._fact w
    (answer_some (net_of c.args.question.now.graph.now) c.args.question.now.fault none_held (Out c.args.node) c.line_out_marked.result (c.in-Some._outside, c.in-Some._fact) c.in-Some.is (c.line_out_marked.ensures none_held)) is) c.push.ensures.ok
