use Rattle.std.proofs.Common.{arith, length, refl, ◌≡◌}
use Rattle.std.proofs.lemmas.List.{length-map}
use Rattle.gate_graph.specs.Circuit.{net_of}
use Rattle.rm_base.specs.declared.numbers.NodeId.{NodeId}
use Rattle.fault_sim.proofs.ReadInOrder.{drivers_within, reader_not_dead}
use Rattle.fault_sim.proofs.Seeing.{readers_within, step_changed, step_kept}
use Rattle.fault_sim.proofs.spreading.spread_at.Goals as goal
use Rattle.rm_base.proofs.Public.{number_at}
use Rattle.rm_base.specs.Numbers.{numbers_of}
use Rattle.rm_base.specs.Inner.Numbers.{default_node}

pub read_word-word-requires-clause-drivers : goal.read_word-word-requires-clause-drivers
read_word-word-requires-clause-drivers c =
    drivers_within (net_of c.args.graph.now) (numbers_of c.args.order.now) c.well_formed-2.ensures.net c.requires.order (length c.args.good.now) c.requires.lanes.within c.args.place _ (number_at c.args.order.now c.args.place default_node c.requires.place)

pub write_word-requires-clause-stamps : goal.write_word-requires-clause-stamps
write_word-requires-clause-stamps c = rw c.requires.lanes.sized.stamps (c.requires.lanes.within c.args.place _ (number_at c.args.order.now c.args.place default_node c.requires.place))

pub write_word-requires-clause-faulty : goal.write_word-requires-clause-faulty
write_word-requires-clause-faulty c = rw c.requires.lanes.sized.faulty (c.requires.lanes.within c.args.place _ (number_at c.args.order.now c.args.place default_node c.requires.place))

pub write_word-requires-clause-room : goal.write_word-requires-clause-room
write_word-requires-clause-room c =
    let few : length (numbers_of c.args.order.now) ≡ length c.args.order.now = length-map c.args.order.now (λ (n : NodeId). n.0) in
    omega (arith, few, c.requires.place, c.requires.lanes.room)

pub bounds-good-number : goal.bounds-good-number
bounds-good-number c = c.requires.lanes.within c.args.place _ (number_at c.args.order.now c.args.place default_node c.requires.place)

pub bounds-good-number-2 : goal.bounds-good-number-2
bounds-good-number-2 c = c.requires.lanes.within c.args.place _ (number_at c.args.order.now c.args.place default_node c.requires.place)

pub mark_after-requires-clause-within : goal.mark_after-requires-clause-within
mark_after-requires-clause-within c z p reads =
    let there = c.requires.order.all z (reader_not_dead (net_of c.args.graph.now) z p _ reads) in
    rw c.requires.lanes.numbers (c.requires.lanes.within there.0 z there.1)

pub mark_after-requires-clause-room : goal.mark_after-requires-clause-room
mark_after-requires-clause-room c z p reads =
    readers_within (net_of c.args.graph.now) (numbers_of c.args.order.now) c.args.places.now c.args.good.now c.requires.order c.args.spread.now c.write_word.new.spread c.args.place _ c.read_word-word.result c.requires.lanes c.write_word.ensures z p reads

pub returns-then-word-good-clause-spread : goal.returns-then-word-good-clause-spread
returns-then-word-good-clause-spread c root word so =
    step_kept (net_of c.args.graph.now) root word c.args.words.now (numbers_of c.args.order.now) c.args.good.now c.well_formed-2.ensures.net c.requires.order c.args.places.now c.args.spread.now c.write_word.new.spread c.args.place
    _ c.read_word-word.result c.args.found c.requires.lanes (number_at c.args.order.now c.args.place default_node c.requires.place) c.write_word.ensures c.read_word-word.ensures c.if-word-good.true so

pub returns-clause-spread : goal.returns-clause-spread
returns-clause-spread c root word so =
    step_changed (net_of c.args.graph.now) root word c.args.words.now (numbers_of c.args.order.now) c.args.good.now c.well_formed-2.ensures.net c.requires.order c.args.places.now c.args.spread.now c.write_word.new.spread
    (record { stamp = c.write_word.new.spread.stamp; stamps = c.write_word.new.spread.stamps; faulty = c.write_word.new.spread.faulty; pending = c.mark_after.new.pending }) c.args.place
    _ c.read_word-word.result c.args.found c.seen_at.result c.requires.lanes (number_at c.args.order.now c.args.place default_node c.requires.place) c.write_word.ensures c.read_word-word.ensures
    refl refl refl c.mark_after.ensures c.seen_at.ensures so
