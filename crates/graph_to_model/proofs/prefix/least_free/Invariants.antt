use Rattle.std.proofs.Common.{◌≡◌, ◌++◌, ◌+◌, ◌<◌, ◌^◌, length}
use Rattle.graph_to_model.specs.Names.{least_free}
use Rattle.graph_to_model.proofs.prefix.least_free.Given as goal

abbrev pub invariant-loop-tries : goal.invariant-loop-tries
invariant-loop-tries l = record {
  is : least_free l.tries l.number (l.sources ++ l.observed) ≡ least_free (length (l.sources ++ l.observed)) 0 (l.sources ++ l.observed);
  few : l.number + l.tries < 2 ^ 63;
}

abbrev pub decreases-loop-tries : goal.decreases-loop-tries
decreases-loop-tries l = l.tries
