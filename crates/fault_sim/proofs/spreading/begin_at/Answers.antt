use Rattle.std.proofs.Common.{arith, length, refl, ◌<◌}
use Rattle.std.specs.Prelude.{slice_index}
use Rattle.gate_graph.specs.Circuit.{net_of}
use Rattle.fault_sim.proofs.Detection.{live_placed, start}
use Rattle.fault_sim.proofs.ReadInOrder.{reader_not_dead}
use Rattle.fault_sim.proofs.Seeing.{readers_within}
use Rattle.fault_sim.proofs.spreading.begin_at.Goals as goal
use Rattle.rm_base.specs.Numbers.{numbers_of}

pub bounds-places-number : goal.bounds-places-number
bounds-places-number c =
    let placed = live_placed (net_of c.args.graph.now) (numbers_of c.args.order.now) c.args.places.now c.args.good.now c.args.spread.now c.args.root.0 c.requires.order c.requires.lanes c.requires.live in
    rw c.requires.lanes.numbers (c.requires.lanes.within _ c.args.root.0 placed.1)

pub write_word-requires-clause-stamps : goal.write_word-requires-clause-stamps
write_word-requires-clause-stamps c =
    let placed = live_placed (net_of c.args.graph.now) (numbers_of c.args.order.now) c.args.places.now c.args.good.now c.args.spread.now c.args.root.0 c.requires.order c.requires.lanes c.requires.live in
    rw c.requires.lanes.sized.stamps (c.requires.lanes.within _ c.args.root.0 placed.1)

pub write_word-requires-clause-faulty : goal.write_word-requires-clause-faulty
write_word-requires-clause-faulty c =
    let placed = live_placed (net_of c.args.graph.now) (numbers_of c.args.order.now) c.args.places.now c.args.good.now c.args.spread.now c.args.root.0 c.requires.order c.requires.lanes c.requires.live in
    rw c.requires.lanes.sized.faulty (c.requires.lanes.within _ c.args.root.0 placed.1)

pub write_word-requires-clause-room : goal.write_word-requires-clause-room
write_word-requires-clause-room c =
    let placed = live_placed (net_of c.args.graph.now) (numbers_of c.args.order.now) c.args.places.now c.args.good.now c.args.spread.now c.args.root.0 c.requires.order c.requires.lanes c.requires.live in
    let below : slice_index c.args.places.now c.args.root.0 < length (numbers_of c.args.order.now) = placed.0 in
    omega (arith, below, c.requires.lanes.room)

pub bounds-good-number : goal.bounds-good-number
bounds-good-number c =
    let placed = live_placed (net_of c.args.graph.now) (numbers_of c.args.order.now) c.args.places.now c.args.good.now c.args.spread.now c.args.root.0 c.requires.order c.requires.lanes c.requires.live in
    c.requires.lanes.within _ c.args.root.0 placed.1

pub mark_after-requires-clause-within : goal.mark_after-requires-clause-within
mark_after-requires-clause-within c z p reads =
    let there = c.requires.order.all z (reader_not_dead (net_of c.args.graph.now) z p _ reads) in
    rw c.requires.lanes.numbers (c.requires.lanes.within there.0 z there.1)

pub mark_after-requires-clause-room : goal.mark_after-requires-clause-room
mark_after-requires-clause-room c z p reads =
    readers_within (net_of c.args.graph.now) (numbers_of c.args.order.now) c.args.places.now c.args.good.now c.requires.order c.args.spread.now c.write_word.new.spread
    _ c.args.root.0 c.args.word c.requires.lanes c.write_word.ensures z p reads

pub returns-clause-spread : goal.returns-clause-spread
returns-clause-spread c =
    let placed = live_placed (net_of c.args.graph.now) (numbers_of c.args.order.now) c.args.places.now c.args.good.now c.args.spread.now c.args.root.0 c.requires.order c.requires.lanes c.requires.live in
    start (net_of c.args.graph.now) c.args.root.0 c.args.word c.args.words.now (numbers_of c.args.order.now) c.args.places.now c.args.good.now c.well_formed-2.ensures.net c.requires.order c.requires.values c.args.spread.now c.write_word.new.spread
    (record { stamp = c.write_word.new.spread.stamp; stamps = c.write_word.new.spread.stamps; faulty = c.write_word.new.spread.faulty; pending = c.mark_after.new.pending })
    (slice_index c.args.places.now c.args.root.0) c.seen_at.result c.requires.lanes c.requires.rested placed.1 c.write_word.ensures refl refl refl c.mark_after.ensures c.seen_at.ensures
