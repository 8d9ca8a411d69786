use Rattle.std.proofs.Common.{◌≡◌, ◌++◌, ℕ, map, Some}
use Rattle.std.specs.Prelude.{slice_get}
use Rattle.rm_base.specs.declared.numbers.NodeId.{NodeId}
use Rattle.local_evaluation.proofs.chains.only_reader.Given as goal

abbrev pub invariant-loop-other : goal.invariant-loop-other
invariant-loop-other l = record {
  all : l.initial.other-iterator ≡ map (λ (d : NodeId). d.0) l.yielded ++ l.other-iterator;
  same : (k : ℕ) (reader : NodeId) → slice_get l.yielded k ≡ Some reader → reader.0 ≡ l.gate.0;
}
