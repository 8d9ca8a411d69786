use Rattle.std.proofs.Common.{◌≡◌, ◌++◌, ◌-◌, map}
use Rattle.graph_to_model.specs.NetModel.{row_per_pin}
use Rattle.graph_to_model.specs.Inner.Making.{before}
use Rattle.graph_to_model.proofs.gates.rows_per_pin.Given as goal

abbrev pub invariant-loop-at : goal.invariant-loop-at
invariant-loop-at l = l.rows.items ++ map (before l.at) (row_per_pin (l.count - l.at)) ≡ row_per_pin l.count
