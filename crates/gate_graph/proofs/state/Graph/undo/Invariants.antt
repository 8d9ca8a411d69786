use Rattle.std.proofs.Common.{◌+◌, ◌≡◌, ◌≤◌, length}
use Rattle.gate_graph.specs.Wirings.{wiring_of, free_in}
use Rattle.std.specs.FinSet as set
use Rattle.gate_graph.specs.Undoing.{CanGoBack, AreWithin, back_to}
use Rattle.gate_graph.specs.Circuit.{wiring}
use Rattle.gate_graph.specs.Inner.Circuit.{kinds_live, kinds_dead}
use Rattle.gate_graph.proofs.HeldPins.{IsUndoing}
use Rattle.gate_graph.proofs.state.Graph.undo.Given as goal

abbrev pub invariant-loop-entry : goal.invariant-loop-entry
invariant-loop-entry l = record {
  back : CanGoBack (wiring_of l.self-inside.kinds.items l.self-inside.pool) l.undos.entries;
  within : AreWithin (length l.self-inside.kinds.items) l.undos.entries;
  same : back_to (wiring_of l.self-inside.kinds.items l.self-inside.pool) l.undos.entries ≡ back_to (wiring l.fn.self) l.fn.undos.entries;
  room : length l.self-inside.kinds.items ≤ length l.self-inside.pool.inputs;
  live : kinds_live l.self-inside.kinds.items l.self-inside.least;
  dead : kinds_dead l.self-inside.kinds.items l.self-inside.bound;
  few : length l.self-inside.kinds.items ≤ 4294967295;
  free : l.self-inside.free ≡ free_in l.self-inside.kinds.items;
  spare : l.fn.self.pool.spare ≤ l.self-inside.pool.spare;
  taken : set.len l.self-inside.pool.taken ≤ set.len l.fn.self.pool.taken;
  numbers : length l.self-inside.kinds.items ≡ length l.fn.self.kinds;
  undoing : IsUndoing l.fn.self.pool l.fn.undos.entries l.self-inside.pool l.undos.entries;
  places : l.undos.spare + length l.undos.entries ≡ l.fn.undos.spare + length l.fn.undos.entries;
  epoch : l.self-inside.epoch ≡ l.fn.self.epoch;
}

abbrev pub decreases-loop-entry : goal.decreases-loop-entry
decreases-loop-entry l = length l.undos.entries
