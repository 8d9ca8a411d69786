use Rattle.std.proofs.Common.{None, Some, arith, length, ◌≡◌}
use Rattle.std.proofs.lemmas.List.{length-map}
use Rattle.gate_graph.specs.Circuit.{net_of}
use Rattle.fault_sim.proofs.Blocking.{block_read, found_first, lane_in, missed_more}
use Rattle.fault_sim.specs.Inner.BlockStates.{words_of}
use Rattle.fault_sim.specs.declared.blocks.Block.{Block}
use Rattle.fault_sim.proofs.blocks.first_of.Goals as goal

pub first_in-requires-clause-block : goal.first_in-requires-clause-block
first_in-requires-clause-block c = c.requires.blocks c.loop-number.number _ (block_read c.args.blocks.now c.loop-number.number c.index-blocks-number.result c.loop-number-test.true c.index-blocks-number.is)

pub returns-in-Some-clause-first : goal.returns-in-Some-clause-first
returns-in-Some-clause-first c =
    let size : length (words_of c.args.blocks.now) ≡ length c.args.blocks.now = length-map c.args.blocks.now (λ (b : Block). b.words.items) in
    found_first (net_of c.args.question.now.graph.now) c.args.question.now.fault (words_of c.args.blocks.now) c.loop-number.number c.in-Some.lane (let less = c.loop-number-test.true in omega arith) c.loop-number.invariant.none
    (lane_in (net_of c.args.question.now.graph.now) c.args.question.now.fault c.args.blocks.now c.loop-number.number _ (Some c.in-Some.lane) (block_read c.args.blocks.now c.loop-number.number c.index-blocks-number.result c.loop-number-test.true c.index-blocks-number.is) c.in-Some.ensures.first)

pub loop-number-preserved : goal.loop-number-preserved
loop-number-preserved c = record {
  placed = c.in_default.ensures.placed;
  none = missed_more (net_of c.args.question.now.graph.now) c.args.question.now.fault (words_of c.args.blocks.now) c.loop-number.number c.loop-number.invariant.none
      (lane_in (net_of c.args.question.now.graph.now) c.args.question.now.fault c.args.blocks.now c.loop-number.number _ None (block_read c.args.blocks.now c.loop-number.number c.index-blocks-number.result c.loop-number-test.true c.index-blocks-number.is) c.in_default.ensures.first);
}

pub returns-clause-first : goal.returns-clause-first
returns-clause-first c n less =
    let size : length (words_of c.args.blocks.now) ≡ length c.args.blocks.now = length-map c.args.blocks.now (λ (b : Block). b.words.items) in
    c.loop-number.invariant.none n (omega arith)
