use Rattle.std.proofs.Common.{ap, arith, length, ◌<◌}
use Rattle.std.specs.Prelude.{bit_xor, slice_index}
use Rattle.gate_graph.specs.Circuit.{net_of}
use Rattle.fault_sim.proofs.Chaining.{passed_read, still_rested, written_stamped}
use Rattle.fault_sim.proofs.Detection.{live_placed, live_within}
use Rattle.fault_sim.proofs.ReadInOrder.{drivers_within}
use Rattle.fault_sim.proofs.observing.changed_in.Goals as goal
use Rattle.rm_base.specs.Numbers.{numbers_of}

pub bounds-places-number : goal.bounds-places-number
bounds-places-number c =
    rw c.requires.lanes.numbers (live_within (net_of c.args.graph.now) (numbers_of c.args.order.now) c.args.places.now c.args.good.now c.args.spread.now c.args.node.0 c.requires.order c.requires.lanes c.requires.node)

pub bounds-good-number : goal.bounds-good-number
bounds-good-number c = live_within (net_of c.args.graph.now) (numbers_of c.args.order.now) c.args.places.now c.args.good.now c.args.spread.now c.args.node.0 c.requires.order c.requires.lanes c.requires.node

pub bounds-good-reader : goal.bounds-good-reader
bounds-good-reader c = live_within (net_of c.args.graph.now) (numbers_of c.args.order.now) c.args.places.now c.args.good.now c.args.spread.now c.args.reader.0 c.requires.order c.requires.lanes c.requires.reader

pub write_word-requires-clause-stamps : goal.write_word-requires-clause-stamps
write_word-requires-clause-stamps c =
    rw c.requires.lanes.sized.stamps (live_within (net_of c.args.graph.now) (numbers_of c.args.order.now) c.args.places.now c.args.good.now c.args.spread.now c.args.node.0 c.requires.order c.requires.lanes c.requires.node)

pub write_word-requires-clause-faulty : goal.write_word-requires-clause-faulty
write_word-requires-clause-faulty c =
    rw c.requires.lanes.sized.faulty (live_within (net_of c.args.graph.now) (numbers_of c.args.order.now) c.args.places.now c.args.good.now c.args.spread.now c.args.node.0 c.requires.order c.requires.lanes c.requires.node)

pub write_word-requires-clause-room : goal.write_word-requires-clause-room
write_word-requires-clause-room c =
    let placed = live_placed (net_of c.args.graph.now) (numbers_of c.args.order.now) c.args.places.now c.args.good.now c.args.spread.now c.args.node.0 c.requires.order c.requires.lanes c.requires.node in
    let below : slice_index c.args.places.now c.args.node.0 < length (numbers_of c.args.order.now) = placed.0 in
    omega (arith, below, c.requires.lanes.room)

pub read_word-word-requires-clause-drivers : goal.read_word-word-requires-clause-drivers
read_word-word-requires-clause-drivers c =
    let placed = live_placed (net_of c.args.graph.now) (numbers_of c.args.order.now) c.args.places.now c.args.good.now c.args.spread.now c.args.reader.0 c.requires.order c.requires.lanes c.requires.reader in
    drivers_within (net_of c.args.graph.now) (numbers_of c.args.order.now) c.well_formed-2.ensures.net c.requires.order (length c.args.good.now) c.requires.lanes.within _ c.args.reader.0 placed.1

pub rest-requires-clause-stamped : goal.rest-requires-clause-stamped
rest-requires-clause-stamped c =
    written_stamped c.args.spread.now c.write_word.new.spread _ c.args.node.0 _
    (rw c.requires.lanes.sized.stamps (live_within (net_of c.args.graph.now) (numbers_of c.args.order.now) c.args.places.now c.args.good.now c.args.spread.now c.args.node.0 c.requires.order c.requires.lanes c.requires.node))
    c.requires.rested c.write_word.ensures

pub rest-requires-clause-idle : goal.rest-requires-clause-idle
rest-requires-clause-idle c k = still_rested c.args.spread.now c.write_word.new.spread _ c.args.node.0 _ c.requires.rested c.write_word.ensures k

pub returns-clause-changed : goal.returns-clause-changed
returns-clause-changed c =
    ap (λ w. bit_xor w (slice_index c.args.good.now c.args.reader.0))
    (passed_read (net_of c.args.graph.now) c.args.words.now c.args.good.now c.args.spread.now c.write_word.new.spread _ c.args.node.0 c.args.reader.0 c.read_word-word.result c.requires.rested c.requires.lanes.sized
    (live_within (net_of c.args.graph.now) (numbers_of c.args.order.now) c.args.places.now c.args.good.now c.args.spread.now c.args.node.0 c.requires.order c.requires.lanes c.requires.node) c.write_word.ensures c.read_word-word.ensures)
