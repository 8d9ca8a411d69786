use Rattle.std.proofs.Common.{◌≡◌, ◌+◌, length}
use Rattle.std.specs.FinSet as set
use Rattle.pin_pool.specs.Rings.{rings_of}
use Rattle.gate_graph.specs.Wirings.{wiring_of}
use Rattle.gate_graph.specs.Holds.{held}
use Rattle.gate_graph.specs.Inner.Holds.{AreHeld}
use Rattle.gate_graph.proofs.state.Graph.keep.Given as goal

abbrev pub invariant-loop-entry : goal.invariant-loop-entry
invariant-loop-entry l = record {
  kinds : l.self-inside.kinds.items ≡ l.fn.self.kinds;
  inputs : (rings_of l.self-inside.pool).inputs ≡ (rings_of l.fn.self.pool).inputs;
  fanouts : (rings_of l.self-inside.pool).fanouts ≡ (rings_of l.fn.self.pool).fanouts;
  nodes : length l.self-inside.pool.inputs ≡ length l.fn.self.pool.inputs;
  held_pins : AreHeld (wiring_of l.self-inside.kinds.items l.self-inside.pool) (held l.undos.entries);
  spare : l.self-inside.pool.spare + length (held l.undos.entries) ≡ l.fn.self.pool.spare + length (held l.fn.undos.entries);
  taken : set.len l.self-inside.pool.taken + length (held l.fn.undos.entries) ≡ set.len l.fn.self.pool.taken + length (held l.undos.entries);
  free : l.self-inside.free ≡ l.initial.self-inside.free;
  places : l.undos.spare + length l.undos.entries ≡ l.fn.undos.spare + length l.fn.undos.entries;
  epoch : l.self-inside.epoch ≡ l.fn.self.epoch;
  least : l.self-inside.least ≡ l.initial.self-inside.least;
  bound : l.self-inside.bound ≡ l.initial.self-inside.bound;
}

abbrev pub decreases-loop-entry : goal.decreases-loop-entry
decreases-loop-entry l = length l.undos.entries
