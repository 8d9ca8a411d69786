use Rattle.std.proofs.Common.{◌≡◌}
use Rattle.gate_graph.specs.Circuit.{net_of}
use Rattle.rar_loop.specs.Inner.Spaces.{HasToolsFor}
use Rattle.rar_loop.specs.Inner.Trying.{IsBack}
use Rattle.rar_loop.proofs.Pairing.{Walked}
use Rattle.rar_loop.proofs.walking.walk_targets.Given as goal

abbrev pub invariant-loop-place : goal.invariant-loop-place
invariant-loop-place l = record {
  stays : IsBack l.initial.space.trial l.space.trial;
  walked : Walked (net_of l.initial.space.trial.graph) l.faults.items l.place l.initial.left l.left;
  numbers : l.finder ≡ l.initial.finder;
  tools : HasToolsFor (net_of l.space.trial.graph) l.space;
}
