use Rattle.std.proofs.Common.{map, ◌++◌, ◌≡◌}
use Rattle.implications.proofs.tallies.count_pins.Given as goal
use Rattle.implications.specs.Inner.Tallies.{IsTally}
use Rattle.refutation.specs.FactSets.{held_by}
use Rattle.rm_base.specs.declared.numbers.NodeId.{NodeId}

abbrev pub invariant-loop-driver : goal.invariant-loop-driver
invariant-loop-driver l = record {
  all : l.fn.drivers ≡ map (λ (d : NodeId). d.0) l.yielded ++ l.driver-iterator;
  counted : IsTally (held_by l.facts) l.position (map (λ (d : NodeId). d.0) l.yielded) l.tally;
}
