use Rattle.std.proofs.Common.{◌≡◌, ℕ, ◌<◌, length}
use Rattle.std.specs.Prelude.{Some, slice_get}
use Rattle.fault_sim.specs.declared.observabilities.Note.{Note}
use Rattle.fault_sim.proofs.observabilities.clear.Given as goal

abbrev pub invariant-loop-number : goal.invariant-loop-number
invariant-loop-number l = record {
  room : length l.notes.items ≡ length l.fn.notes.items;
  cleared : (k : ℕ) (note : Note) → k < l.number → slice_get l.notes.items k ≡ Some note → note.stamp ≡ 0;
}
