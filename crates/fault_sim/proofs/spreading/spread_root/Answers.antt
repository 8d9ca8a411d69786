use Rattle.std.proofs.Common.{arith, inl, inr, length, ◌≡◌, ◌<◌}
use Rattle.std.proofs.lemmas.List.{length-map}
use Rattle.std.specs.Prelude.{slice_index}
use Rattle.gate_graph.specs.Circuit.{net_of}
use Rattle.rm_base.specs.declared.numbers.NodeId.{NodeId}
use Rattle.fault_sim.proofs.Detection.{live_placed}
use Rattle.fault_sim.proofs.Lists.{below_or}
use Rattle.fault_sim.proofs.Spreads.{clash, skip}
use Rattle.fault_sim.proofs.spreading.spread_root.Goals as goal
use Rattle.rm_base.specs.Numbers.{numbers_of}

pub loop-place-init : goal.loop-place-init
loop-place-init c =
    let few : length (numbers_of c.args.order.now) ≡ length c.args.order.now = length-map c.args.order.now (λ (n : NodeId). n.0) in
    let placed = live_placed (net_of c.args.graph.now) (numbers_of c.args.order.now) c.args.places.now c.args.good.now c.args.spread.now c.args.root.0 c.requires.order c.requires.lanes c.requires.live in
    let below : slice_index c.args.places.now c.args.root.0 < length (numbers_of c.args.order.now) = placed.0 in
    record { spread = c.begin_at-found.ensures.spread; lanes = c.begin_at-found.ensures.lanes; within = omega arith }

pub loop-place-preserved : goal.loop-place-preserved
loop-place-preserved c =
    let first = rw c.as_slice.ensures.value at c.in-Some.ensures in
    let few : length (numbers_of c.args.order.now) ≡ length c.args.order.now = length-map c.args.order.now (λ (n : NodeId). n.0) in
    let skipped = skip (net_of c.args.graph.now) c.args.root.0 c.args.word c.args.words.now (numbers_of c.args.order.now) c.args.good.now c.well_formed-2.ensures.net c.requires.order c.requires.values c.loop-place.spread c.loop-place.at c.loop-place.found c.in-Some.place c.loop-place.invariant.spread first.0 first.1.1 in
    record {
      spread = c.spread_at-found.ensures.spread c.args.root.0 c.args.word skipped;
      lanes = c.spread_at-found.ensures.lanes;
      within = elim (below_or c.in-Some.place (length c.args.order.now)) [
        | inl less ↦ omega arith
        | inr past ↦ absurd (clash c.loop-place.spread.pending.items c.in-Some.place first.1.0 (c.loop-place.invariant.spread.past c.in-Some.place (omega arith)))
      ];
    }

pub returns-clause-spread : goal.returns-clause-spread
returns-clause-spread c =
    let none = rw c.as_slice.ensures.value at c.in_default.ensures in
    skip (net_of c.args.graph.now) c.args.root.0 c.args.word c.args.words.now (numbers_of c.args.order.now) c.args.good.now c.well_formed-2.ensures.net c.requires.order c.requires.values c.loop-place.spread c.loop-place.at c.loop-place.found (length c.args.order.now) c.loop-place.invariant.spread c.loop-place.invariant.within
    (λ k le less. none k le)
