-- What holds of every trial.
use Rattle.std.specs.Prelude.{◌≡◌, ◌≤◌, ◌+◌, ◌↔◌, ℕ, List, [], Bool, true, length, min}
use Rattle.gate_net.specs.Net.{wire_count, source_count, gate_count}
use Rattle.gate_graph.specs.Circuit.{Circuit, wiring, net_of, free_pins, free_nodes, pins_taken, live_nodes}
use Rattle.gate_graph.specs.Undoing.{CanGoBack, AreWithin, back_to}
use Rattle.gate_graph.specs.Trail.{Trail}
use Rattle.wire_edit.specs.declared.room.Room.{Room}
use Rattle.wire_edit.specs.declared.steps.Step.{Step}
use Rattle.wire_edit.specs.declared.kept.Kept.{Kept}
use Rattle.wire_edit.specs.Inner.Known.{IsKept}
use Rattle.wire_edit.specs.Order.{IsTidy}
use Rattle.wire_edit.specs.Inner.Marked.{IsQuiet}
use Rattle.rm_base.specs.Numbers.{number_bound}

-- the undos lead back; pins, nodes, entries and marks suffice for the room that is left; no rule applies at a gate that isn't to be looked at
pub record IsTrial (graph : Circuit) (trail : Trail) (room : Room) (marks : ℕ) (worklist : List Bool) : Type 0 where
  pub back : CanGoBack (wiring graph) trail.entries
  pub within : AreWithin (length graph.kinds) trail.entries
  pub entries : room.steps + wire_count (net_of graph) + room.pins ≤ trail.spare
  pub pins : room.pins ≤ free_pins graph
  pub nodes : room.nodes ≤ free_nodes graph
  pub marks_suffice : min (length (net_of graph).nodes + room.nodes) number_bound ≤ marks
  pub worklist_suffices : marks ≤ length worklist
  pub quiet : IsQuiet (net_of graph) worklist

-- for a graph at the start: the entries, pins, node numbers and marks suffice for the first room once all is undone, and its net is tidy where that is known
pub record IsStart (start graph : Circuit) (trail : Trail) (first : Room) (marks : ℕ) (tidy : Bool) : Type 0 where
  pub entries : first.steps + wire_count (net_of start) + first.pins ≤ trail.spare + length trail.entries
  pub pins : first.pins + pins_taken start ≤ free_pins graph + pins_taken graph
  pub nodes : first.nodes + (2 + source_count (net_of start) + gate_count (net_of start)) ≤ length graph.kinds
  pub marks_suffice : min (length (net_of start).nodes + first.nodes) number_bound ≤ marks
  pub is_tidy : tidy ≡ true → IsTidy (net_of start)

-- each step took one of the first room and left an entry, and all of that room is there again at the start
pub record GoesBack (graph : Circuit) (trail : Trail) (steps : List Step) (spare : ℕ) (first : Room) (marks : ℕ) (tidy : Bool) : Type 0 where
  pub steps_left : spare + length steps ≡ first.steps
  pub made : length steps ≤ length trail.entries
  pub at_start : (start : Circuit) → wiring start ≡ back_to (wiring graph) trail.entries → IsStart start graph trail first marks tidy

-- there is an entry exactly where a step was made; marks for drivers suffice as the others do; what is known of a gate holds; the trial can go back
pub record IsReady (graph : Circuit) (trail : Trail) (steps : List Step) (spare : ℕ) (marks seen : ℕ) (kept : Kept) (first : Room) (tidy : Bool) : Type 0 where
  pub begun : (trail.entries ≡ []) ↔ (steps ≡ [])
  pub seen_suffices : marks ≤ seen
  pub kept_suffices : marks ≤ length kept.marks.items
  pub known : IsKept (net_of graph) kept
  pub goes_back : GoesBack graph trail steps spare first marks tidy

-- the same graph, with no less room
pub record IsReserved (old new : Circuit) : Type 0 where
  pub pins : free_pins old ≤ free_pins new
  pub nodes : free_nodes old ≤ free_nodes new
  pub taken : pins_taken new ≡ pins_taken old
  pub live : live_nodes new ≡ live_nodes old

-- pins, nodes, entries and marks suffice for the room
pub record HasEnough (graph : Circuit) (spare marks : ℕ) (room : Room) : Type 0 where
  pub entries : room.steps + wire_count (net_of graph) + room.pins ≤ spare
  pub pins : room.pins ≤ free_pins graph
  pub nodes : room.nodes ≤ free_nodes graph
  pub marks_suffice : min (length (net_of graph).nodes + room.nodes) number_bound ≤ marks
