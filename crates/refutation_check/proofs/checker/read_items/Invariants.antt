use Rattle.std.proofs.Common.{length, ◌≡◌}
use Rattle.gate_graph.specs.Circuit.{net_of}
use Rattle.refutation.specs.Sites.{Serves}
use Rattle.refutation_check.proofs.Steps.{ReadTo}
use Rattle.refutation_check.specs.Inner.Standing.{left_of}
use Rattle.refutation_check.specs.Inner.Walks.{IsWalk}
use Rattle.refutation_check.proofs.checker.read_items.Given as goal

abbrev pub invariant-loop-item : goal.invariant-loop-item
invariant-loop-item l = record {
  walk : IsWalk (net_of l.question.graph.now) l.walk;
  site : Serves (net_of l.question.graph.now) l.question.fault.gate.0 l.site;
  numbers : l.walk.branches.trail.numbers ≡ l.initial.walk.branches.trail.numbers;
  size : length l.site.marks.reached ≡ length l.initial.site.marks.reached;
  number : l.number ≡ l.item-index;
  read : ReadTo (net_of l.question.graph.now) l.question.fault l.form l.items l.item-index (left_of l.walk.branches);
}
