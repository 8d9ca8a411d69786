use Rattle.std.proofs.Common.{arith, length, ◌≤◌}
use Rattle.gate_graph.specs.Circuit.{net_of}
use Rattle.implications.proofs.BeginsOutside.{writes_none, writes_outside}
use Rattle.implications.proofs.beginning.write_outside.Goals as goal

pub loop-number-init : goal.loop-number-init
loop-number-init c = writes_none (net_of c.args.question.now.graph.now) c.args.question.now.fault c.args.tree.now

pub returns : goal.returns
returns c =
    let all : length (net_of c.args.question.now.graph.now).nodes ≤ c.loop-number.number = omega (arith, c.loop-number-test.false, c.node_bound-number-end.ensures) in
    writes_outside (net_of c.args.question.now.graph.now) c.args.question.now.fault c.loop-number.number c.args.tree.now c.loop-number.tree c.loop-number.invariant all
