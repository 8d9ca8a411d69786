use Rattle.wire_edit.proofs.Reading.{Twins}
use Rattle.wire_edit.proofs.rules.least_twin.Given as goal

abbrev pub invariant-loop-reader : goal.invariant-loop-reader
invariant-loop-reader l = Twins l.graph l.gate.0 l.fn.driver.0 l.reader-iterator
