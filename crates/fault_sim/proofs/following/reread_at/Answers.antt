use Rattle.std.proofs.Common.{None, Some, arith, get_or, length, refl, sym, ◌+◌, ◌/◌, ◌<◌, ◌∙◌, ◌≡◌}
use Rattle.std.proofs.lemmas.List.{get_or_read}
use Rattle.std.specs.Prelude.{slice_index}
use Rattle.gate_graph.specs.Circuit.{net_of}
use Rattle.fault_sim.proofs.CatchingUp.{again_changed, again_kept, lanes_again}
use Rattle.fault_sim.proofs.ReadInOrder.{drivers_within, good_read, reader_not_dead}
use Rattle.fault_sim.proofs.following.reread_at.Goals as goal
use Rattle.rm_base.proofs.Public.{number_at, slice_get_below}
use Rattle.rm_base.specs.Numbers.{numbers_of}
use Rattle.rm_base.specs.Inner.Numbers.{default_node}

pub good_word-word-requires-clause-drivers : goal.good_word-word-requires-clause-drivers
good_word-word-requires-clause-drivers c =
    rw c.as_slice.ensures.value
    (drivers_within (net_of c.args.graph.now) (numbers_of c.args.order.now) c.well_formed-2.ensures.net c.requires.order (length c.args.good.now.items) c.requires.lanes.within c.args.place _ (number_at c.args.order.now c.args.place default_node c.requires.place))

pub index-requires : goal.index-requires
index-requires c =
    let below : (get_or c.args.order.now c.args.place default_node).0 < length c.args.good.now.items = c.requires.lanes.within c.args.place _ (number_at c.args.order.now c.args.place default_node c.requires.place) in
    omega (arith, below)

pub index_mut-requires : goal.index_mut-requires
index_mut-requires c =
    let below : (get_or c.args.order.now c.args.place default_node).0 < length c.args.good.now.items = c.requires.lanes.within c.args.place _ (number_at c.args.order.now c.args.place default_node c.requires.place) in
    omega (arith, below)

pub returns-then-word-index-clause-rereading : goal.returns-then-word-index-clause-rereading
returns-then-word-index-clause-rereading c =
    let here = number_at c.args.order.now c.args.place default_node c.requires.place in
    again_kept (net_of c.args.graph.now) c.args.words.now (numbers_of c.args.order.now) c.well_formed-2.ensures.net c.requires.order c.args.good.now.items c.args.spread.now.pending.items c.unmark.new.pending.items c.args.place _ c.good_word-word.result
    here c.unmark.ensures
    (good_read (net_of c.args.graph.now) c.args.words.now c.as_slice.result.now c.args.good.now.items _ c.good_word-word.result c.as_slice.ensures.value c.good_word-word.ensures)
    (c.if-word-index.true ∙ get_or_read c.args.good.now.items _ _ (c.requires.lanes.within c.args.place _ here) c.index.ensures 0) c.requires.rereading

pub mark_after-requires-clause-room : goal.mark_after-requires-clause-room
mark_after-requires-clause-room c z p reads =
    let at = c.requires.order.all z (reader_not_dead (net_of c.args.graph.now) z p _ reads) in
    let below : at.0 < length (numbers_of c.args.order.now) = slice_get_below (numbers_of c.args.order.now) at.0 (λ none. let wrong : Some z ≡ None = sym at.1 ∙ none in cc) in
    let place : slice_index c.args.places.now z ≡ at.0 = c.requires.lanes.places_are at.0 z at.1 in
    let room : length c.unmark.new.pending.items ≡ length (numbers_of c.args.order.now) / 64 + 1 = c.unmark.ensures.size ∙ c.requires.lanes.room in
    omega (arith, below, place, room)

pub returns-clause-rereading : goal.returns-clause-rereading
returns-clause-rereading c =
    let here = number_at c.args.order.now c.args.place default_node c.requires.place in
    again_changed (net_of c.args.graph.now) c.args.words.now (numbers_of c.args.order.now) c.well_formed-2.ensures.net c.requires.order c.args.places.now c.args.good.now.items c.args.spread.now.pending.items c.unmark.new.pending.items c.mark_after.new.pending.items
    c.args.place _ c.good_word-word.result c.requires.lanes.places_are (c.requires.lanes.within c.args.place _ here) here c.unmark.ensures c.mark_after.ensures
    (good_read (net_of c.args.graph.now) c.args.words.now c.as_slice.result.now c.args.good.now.items _ c.good_word-word.result c.as_slice.ensures.value c.good_word-word.ensures) c.requires.rereading

pub returns-clause-lanes : goal.returns-clause-lanes
returns-clause-lanes c =
    lanes_again (numbers_of c.args.order.now) c.args.places.now c.args.good.now.items c.args.spread.now (record { stamp = c.args.spread.now.stamp; stamps = c.args.spread.now.stamps; faulty = c.args.spread.now.faulty; pending = c.mark_after.new.pending }) c.args.place
    _ c.good_word-word.result (number_at c.args.order.now c.args.place default_node c.requires.place) c.requires.lanes refl refl (c.mark_after.ensures.size ∙ c.unmark.ensures.size)
