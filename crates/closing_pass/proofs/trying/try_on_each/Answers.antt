use Rattle.std.proofs.Common.{◌+◌, ◌∙◌, sym, subst, arith}
use Rattle.std.proofs.lemmas.Option.{slice_get-get_or}
use Rattle.gate_graph.specs.Circuit.{net_of}
use Rattle.fault_sim.specs.LaneStates.{LaneState}
use Rattle.fault_sim.specs.Observing.{AreObservabilities}
use Rattle.closing_pass.specs.Inner.Trying.{AreInLanes}
use Rattle.closing_pass.proofs.Tries.{tried_more, tried_all}
use Rattle.closing_pass.proofs.trying.try_on_each.Goals as goal

pub invariant_of-question : goal.invariant_of-question
invariant_of-question c = record { pin = c.requires.pins c.loop-place.place _ (slice_get-get_or c.args.faults.now c.loop-place.place _ c.loop-place-test.true) }

pub try_on-requires-clause-packed : goal.try_on-requires-clause-packed
try_on-requires-clause-packed c = subst (λ (s : LaneState). AreInLanes c.args.kept.now c.args.first c.args.count s.words) (sym c.loop-place.invariant.same) c.requires.packed

pub try_on-requires-clause-right : goal.try_on-requires-clause-right
try_on-requires-clause-right c = subst (λ (s : LaneState). AreObservabilities c.loop-place.notes (net_of c.args.graph.now) s.words) (sym c.loop-place.invariant.same) c.loop-place.invariant.right

pub loop-place-preserved : goal.loop-place-preserved
loop-place-preserved c = record {
  tried = tried_more (net_of c.args.graph.now) c.args.kept.now c.args.first (c.args.first + c.args.count) c.args.faults.now c.loop-place.place _ c.args.found.now.items c.loop-place.found.items c.try_on.new.found.items
      (slice_get-get_or c.args.faults.now c.loop-place.place _ c.loop-place-test.true) (omega (arith, c.loop-place-test.true, c.requires.size)) c.loop-place.invariant.tried c.try_on.ensures.tried;
  same = c.try_on.ensures.same ∙ c.loop-place.invariant.same;
  right = subst (λ (s : LaneState). AreObservabilities c.try_on.new.notes (net_of c.args.graph.now) s.words) c.loop-place.invariant.same c.try_on.ensures.right;
}

pub returns-clause-tried : goal.returns-clause-tried
returns-clause-tried c =
    tried_all (net_of c.args.graph.now) c.args.kept.now c.args.first (c.args.first + c.args.count) c.args.faults.now c.loop-place.place c.args.found.now.items c.loop-place.found.items c.loop-place-test.false c.loop-place.invariant.tried
