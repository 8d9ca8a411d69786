use Rattle.std.proofs.Common.{◌≡◌, ◌≤◌, ◌+◌, length, map, take}
use Rattle.std.specs.FinSet as set
use Rattle.gate_graph.specs.Inner.Filled.{IsFilled}
use Rattle.gate_graph.proofs.rings.link_all.Given as goal

abbrev pub invariant-loop-driver : goal.invariant-loop-driver
invariant-loop-driver l = record {
  filled : IsFilled l.fn.pool l.pool l.gate (map (λ n. n.0) (take l.driver-index l.drivers));
  nodes : length l.pool.inputs ≡ length l.fn.pool.inputs;
  taken : set.len l.pool.taken ≡ set.len l.fn.pool.taken + l.driver-index;
  spare : length l.drivers ≤ l.pool.spare + l.driver-index;
}
