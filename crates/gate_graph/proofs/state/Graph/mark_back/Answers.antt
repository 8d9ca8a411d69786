use Rattle.std.proofs.Common.{◌≡◌, length, true, ap, ◌∙◌, arith}
use Rattle.std.specs.Prelude.{slice_index}
use Rattle.gate_graph.specs.Circuit.{net_of}
use Rattle.gate_graph.specs.Search.{unseen}
use Rattle.gate_graph.proofs.Marking.{is_at}
use Rattle.gate_graph.proofs.Searches.{unseen-replicate, searched_first, searched_more, marks-ended, marks-found, lists-seen, queued-live, drivers-below}
use Rattle.gate_graph.proofs.state.Graph.mark_back.Goals as goal

pub mark_unseen-end-requires-clause-within : goal.mark_unseen-end-requires-clause-within
mark_unseen-end-requires-clause-within c = drivers-below (net_of c.args.self.now) c.args.to.0 (length c.args.seen.now) c.inputs_of.result c.well_formed-2.ensures.net c.requires.nodes c.inputs_of.ensures.drivers

pub mark_unseen-end-requires-clause-room : goal.mark_unseen-end-requires-clause-room
mark_unseen-end-requires-clause-room c =
    let all : unseen c.args.seen.now ≡ length c.args.seen.now = ap unseen c.requires.clear ∙ unseen-replicate (length c.args.seen.now) in
    omega (arith, all, c.requires.room)

pub loop-next-init : goal.loop-next-init
loop-next-init c =
    searched_first (net_of c.args.self.now) c.args.to.0 (length c.args.seen.now) _ _ _ _ (rw (c.requires.clear, c.inputs_of.ensures.drivers) at c.mark_unseen-end.ensures) (omega arith)

pub returns-then-seen-from-clause-marks : goal.returns-then-seen-from-clause-marks
returns-then-seen-from-clause-marks c = marks-found _ c.args.from.0 c.args.to.0 c.loop-next.seen c.loop-next.queue c.loop-next.next c.loop-next.end c.loop-next.invariant
    (is_at c.loop-next.seen c.args.from.0 true (omega (arith, c.requires.from, c.loop-next.auto.seen)) c.if-seen-from.true)

pub returns-then-seen-from-clause-listed : goal.returns-then-seen-from-clause-listed
returns-then-seen-from-clause-listed c = lists-seen _ c.args.to.0 c.loop-next.seen c.loop-next.queue c.loop-next.next c.loop-next.end c.loop-next.invariant

pub returns-then-seen-from-clause-room : goal.returns-then-seen-from-clause-room
returns-then-seen-from-clause-room c = omega (arith, c.loop-next.invariant.room)

pub offset_bounds-queue-next : goal.offset_bounds-queue-next
offset_bounds-queue-next c = omega (arith, c.loop-next.invariant.room, c.loop-next-test.true)

pub bounds-queue-next : goal.bounds-queue-next
bounds-queue-next c = omega (arith, c.loop-next.invariant.room, c.loop-next-test.true)

pub inputs_of-requires-in-loop-next : goal.inputs_of-requires-in-loop-next
inputs_of-requires-in-loop-next c = queued-live (net_of c.args.self.now) c.args.to.0 c.loop-next.seen c.loop-next.queue c.loop-next.next c.loop-next.end c.well_formed-2.ensures.net c.loop-next.invariant c.loop-next-test.true

pub mark_unseen-end-requires-in-loop-next-clause-within : goal.mark_unseen-end-requires-in-loop-next-clause-within
mark_unseen-end-requires-in-loop-next-clause-within c = drivers-below (net_of c.args.self.now) (slice_index c.loop-next.queue c.loop-next.next) (length c.loop-next.seen) c.inputs_of-in-loop-next.result c.well_formed-2.ensures.net (omega (arith, c.requires.nodes, c.loop-next.auto.seen)) c.inputs_of-in-loop-next.ensures.drivers

pub mark_unseen-end-requires-in-loop-next-clause-room : goal.mark_unseen-end-requires-in-loop-next-clause-room
mark_unseen-end-requires-in-loop-next-clause-room c = c.loop-next.invariant.room

pub loop-next-preserved : goal.loop-next-preserved
loop-next-preserved c =
    searched_more (net_of c.args.self.now) c.args.to.0 c.loop-next.seen _ c.loop-next.queue _ c.loop-next.next c.loop-next.end _ c.loop-next.invariant c.loop-next-test.true (rw c.inputs_of-in-loop-next.ensures.drivers at c.mark_unseen-end-in-loop-next.ensures) (omega arith)

pub returns-clause-marks : goal.returns-clause-marks
returns-clause-marks c = marks-ended _ c.args.from.0 c.args.to.0 c.loop-next.seen c.loop-next.queue c.loop-next.next c.loop-next.end c.loop-next.invariant c.loop-next-test.false

pub returns-clause-listed : goal.returns-clause-listed
returns-clause-listed c = lists-seen _ c.args.to.0 c.loop-next.seen c.loop-next.queue c.loop-next.next c.loop-next.end c.loop-next.invariant

pub returns-clause-room : goal.returns-clause-room
returns-clause-room c = omega (arith, c.loop-next.invariant.room)
