use Rattle.std.proofs.Common.{subst, sym}
use Rattle.gate_graph.specs.Circuit.{net_of}
use Rattle.fault_sim.specs.LaneStates.{Fits, IsSimulated, LaneState}
use Rattle.fault_sim.specs.Observing.{AreObservabilities}
use Rattle.net_tests.proofs.lanes.shared.all_same.Goals as goal

pub loop-number-preserved : goal.loop-number-preserved
loop-number-preserved c = record {
  fits = subst (λ (s : LaneState). Fits s (net_of c.args.graph.now)) (sym c.tell_same.ensures.same) c.loop-number.invariant.fits;
  simulated = subst (λ (s : LaneState). IsSimulated s (net_of c.args.graph.now)) (sym c.tell_same.ensures.same) c.loop-number.invariant.simulated;
  right = subst (λ (s : LaneState). AreObservabilities c.tell_same.new.notes (net_of c.args.graph.now) s.words) (sym c.tell_same.ensures.same) c.tell_same.ensures.right;
}
