use Rattle.std.proofs.Common.{◌≡◌, ◌+◌, length}
use Rattle.pin_pool.specs.Pins.{list_of}
use Rattle.gate_graph.specs.Wirings.{free_in}
use Rattle.gate_graph.specs.Circuit.{Circuit}
use Rattle.gate_graph.specs.Inner.Circuit.{kinds_live, kinds_dead}
use Rattle.gate_graph.specs.Inner.Emptied.{IsEmptied}
use Rattle.gate_graph.specs.Holds.{held}
use Rattle.pin_pool.specs.Totals.{linked_pins}
use Rattle.gate_graph.proofs.state.Graph.retire.Given as goal

abbrev pub invariant-loop-pin : goal.invariant-loop-pin
invariant-loop-pin l = record {
  emptied : (let w : Circuit = record { kinds = l.self-inside.kinds.items; pool = l.self-inside.pool; epoch = l.self-inside.epoch } in IsEmptied l.fn.self w l.gate.0 l.fn.undos.entries l.undos.entries);
  entries : l.undos.spare + length (list_of l.fn.self.pool.inputs l.gate.0) ≡ l.fn.undos.spare + length (list_of l.self-inside.pool.inputs l.gate.0);
  held_pins : linked_pins l.self-inside.pool + length (held l.undos.entries) ≡ linked_pins l.fn.self.pool + length (held l.fn.undos.entries);
  nodes : length l.self-inside.pool.inputs ≡ length l.fn.self.pool.inputs;
  spare : l.self-inside.pool.spare ≡ l.fn.self.pool.spare;
  taken : l.self-inside.pool.taken ≡ l.fn.self.pool.taken;
  free : l.self-inside.free ≡ free_in l.self-inside.kinds.items;
  live : kinds_live l.self-inside.kinds.items l.self-inside.least;
  dead : kinds_dead l.self-inside.kinds.items l.self-inside.bound;
  epoch : l.self-inside.epoch ≡ l.fn.self.epoch;
  same : l.self-inside.kinds.items ≡ l.fn.self.kinds;
  together : length l.undos.entries + l.undos.spare ≡ length l.fn.undos.entries + l.fn.undos.spare;
}

abbrev pub decreases-loop-pin : goal.decreases-loop-pin
decreases-loop-pin l = length (list_of l.self-inside.pool.inputs l.gate.0)
