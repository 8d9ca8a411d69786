use Rattle.std.proofs.Common.{length, ℕ, ◌<◌, ◌≡◌, ◌≤◌}
use Rattle.std.specs.Prelude.{Some, slice_get}
use Rattle.gate_graph.specs.Circuit.{net_of}
use Rattle.joined_nets.specs.Growing.{IsWhole}
use Rattle.joined_nets.specs.Joined.{first_gate}
use Rattle.care_opt.specs.Extract.{main_nodes, new_number}
use Rattle.care_opt.specs.Inner.Looking.{with_main}
use Rattle.care_opt.proofs.extracting.copy_gates.Given as goal

abbrev pub invariant-loop-number : goal.invariant-loop-number
invariant-loop-number l = record {
  whole : IsWhole l.small;
  after : first_gate (net_of l.graph) ≤ l.number;
  within : l.number ≤ l.bound;
  size : length l.numbers.items ≡ l.number;
  numbers : (x : ℕ) → x < l.number → slice_get l.numbers.items x ≡ Some (new_number (main_nodes l.bound (net_of l.graph)) x);
  next : length (net_of l.small).nodes ≡ new_number (main_nodes l.bound (net_of l.graph)) l.number;
  left : with_main (net_of l.small) l.number l.bound (net_of l.graph) ≡ with_main (net_of l.initial.small) (first_gate (net_of l.graph)) l.bound (net_of l.graph);
}
