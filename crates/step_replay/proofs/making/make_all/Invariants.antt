use Rattle.std.proofs.Common.{◌≡◌}
use Rattle.gate_graph.specs.Circuit.{net_of}
use Rattle.step_replay.specs.Inner.Making.{IsReady}
use Rattle.step_replay.proofs.Looping.{IsOn}
use Rattle.step_replay.proofs.making.make_all.Given as goal

abbrev pub invariant-loop-step : goal.invariant-loop-step
invariant-loop-step l = record {
  ready : IsReady l.trial l.left;
  made : l.made ≡ l.step-index;
  on : IsOn (net_of l.initial.trial.graph) (net_of l.trial.graph) l.steps l.step-index l.best;
}
