use Rattle.std.proofs.Common.{Some, arith, length, ◌<◌}
use Rattle.gate_graph.specs.Circuit.{net_of}
use Rattle.fault_sim.proofs.Blocking.{block_read, lane_in}
use Rattle.fault_sim.proofs.blocks.detects_among.Goals as goal

pub returns-clause-detects : goal.returns-clause-detects
returns-clause-detects c = λ yes.
    let less : c.args.number < length c.args.blocks.now = omega (arith, c.if-number-blocks.false) in
    let first = lane_in (net_of c.args.question.now.graph.now) c.args.question.now.fault c.args.blocks.now c.args.number _ (Some c.in-Some._lane) (block_read c.args.blocks.now c.args.number c.index-blocks-number.result less c.index-blocks-number.is) c.in-Some.ensures.first in
    (c.in-Some._lane, (first.0, first.1.0))

pub first_in-requires-clause-block : goal.first_in-requires-clause-block
first_in-requires-clause-block c = c.requires.blocks c.args.number _ (block_read c.args.blocks.now c.args.number c.index-blocks-number.result (omega (arith, c.if-number-blocks.false)) c.index-blocks-number.is)
