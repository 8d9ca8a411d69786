use Rattle.std.proofs.Common.{◌≤◌}
use Rattle.gate_graph.specs.Circuit.{net_of}
use Rattle.rar_loop.specs.Inner.Spaces.{HasToolsFor}
use Rattle.rar_loop.specs.Inner.Trying.{IsBack}
use Rattle.rar_loop.proofs.exchanging.exchange_target.Given as goal

abbrev pub invariant-loop-place : goal.invariant-loop-place
invariant-loop-place l = record {
  stays : IsBack l.initial.space.trial l.space.trial;
  left : l.left ≤ l.initial.left;
  tools : HasToolsFor (net_of l.space.trial.graph) l.space;
}
