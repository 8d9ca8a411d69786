use Rattle.std.proofs.Common.{◌≡◌, ◌++◌}
use Rattle.graph_to_model.proofs.copies.append.Given as goal

abbrev pub invariant-loop-cover : goal.invariant-loop-cover
invariant-loop-cover l = l.covers.items ≡ l.initial.covers.items ++ l.yielded
