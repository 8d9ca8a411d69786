use Rattle.gate_graph.specs.Circuit.{net_of}
use Rattle.implications.proofs.Begins.{answer_some}
use Rattle.implications.proofs.BeginsOutside.{answer_never, holds_none, holds_one, out_below}
use Rattle.implications.proofs.beginning.hold_outside.Goals as goal
use Rattle.refutation.specs.Facts.{none_held}
use Rattle.refutation.specs.declared.reasoning.Line.TheVariants.{Out}

pub returns-in_default : goal.returns-in_default
returns-in_default c =
    holds_none (net_of c.args.question.now.graph.now) c.args.question.now.fault c.args.node.0 c.args.facts.now
    (answer_never (net_of c.args.question.now.graph.now) c.args.question.now.fault none_held (Out c.args.node) c.line_out_marked.result c.in_default.is (c.line_out_marked.ensures none_held))

pub insert-requires : goal.insert-requires
insert-requires c =
    out_below (net_of c.args.question.now.graph.now) c.args.question.now.fault c.args.node.0 c.in-Some.outside.0 c.in-Some.fact c.args.facts.now
    (answer_some (net_of c.args.question.now.graph.now) c.args.question.now.fault none_held (Out c.args.node) c.line_out_marked.result (c.in-Some.outside, c.in-Some.fact) c.in-Some.is (c.line_out_marked.ensures none_held)) c.requires.node

pub returns : goal.returns
returns c =
    holds_one (net_of c.args.question.now.graph.now) c.args.question.now.fault c.args.node.0 c.args.facts.now c.insert.new.self c.in-Some.outside.0 c.in-Some.fact
    (answer_some (net_of c.args.question.now.graph.now) c.args.question.now.fault none_held (Out c.args.node) c.line_out_marked.result (c.in-Some.outside, c.in-Some.fact) c.in-Some.is (c.line_out_marked.ensures none_held)) c.insert.ensures.facts
