use Rattle.std.proofs.Common.{◌≡◌, take}
use Rattle.rm_model.proofs.evaluation.known_sources.Given as goal

abbrev pub invariant-loop-place : goal.invariant-loop-place
invariant-loop-place l = record {
  names : l.known.names ≡ take l.place l.names;
  values : l.known.values.items ≡ take l.place l.values;
}
