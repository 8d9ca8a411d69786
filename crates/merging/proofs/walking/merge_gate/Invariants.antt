use Rattle.merging.specs.Inner.Merging.{HasMerged, IsReady}
use Rattle.merging.proofs.walking.merge_gate.Given as goal

abbrev pub invariant-loop-place : goal.invariant-loop-place
invariant-loop-place l = record {
  ready : IsReady l.space;
  merged : HasMerged l.initial.space.trial.graph l.space.trial.graph l.initial.log.items l.log.items;
}
