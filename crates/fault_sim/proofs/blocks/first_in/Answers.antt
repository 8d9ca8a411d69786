use Rattle.gate_graph.specs.Circuit.{net_of}
use Rattle.fault_sim.proofs.Blocking.{first_lane_of, lanes_of, placed_again}
use Rattle.fault_sim.proofs.blocks.first_in.Goals as goal
use Rattle.rm_base.specs.Numbers.{numbers_of}

pub found_by-found-requires-clause-lanes : goal.found_by-found-requires-clause-lanes
found_by-found-requires-clause-lanes c = rw c.as_slice-2.ensures.value (lanes_of (numbers_of c.args.order.now) c.args.places.now c.args.block.now.good.items c.args.spread.now c.requires.placed c.requires.block.good)

pub returns-clause-first : goal.returns-clause-first
returns-clause-first c =
    first_lane_of (net_of c.args.question.now.graph.now) c.args.question.now.fault c.args.block.now.words.items c.found_by-found.result c.first_bit.result (rw c.as_slice.ensures.value at c.found_by-found.ensures.detects) c.first_bit.ensures

pub returns-clause-placed : goal.returns-clause-placed
returns-clause-placed c =
    placed_again (numbers_of c.args.order.now) c.args.places.now c.args.block.now.good.items c.args.spread.now c.found_by-found.new.spread c.requires.placed c.requires.block.good (rw c.as_slice-2.ensures.value at c.found_by-found.ensures.lanes) c.found_by-found.ensures.rested
