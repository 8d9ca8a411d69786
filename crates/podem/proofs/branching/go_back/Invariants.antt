use Rattle.std.proofs.Common.{List, length, ℕ, ◌≤◌}
use Rattle.gate_net.specs.Net.{Net}
use Rattle.podem.proofs.branching.go_back.Given as goal
use Rattle.podem.specs.Inner.Going.{ClosesAt, Start}
use Rattle.refutation.specs.declared.items.Item.{Item}
use Rattle.rm_base.specs.declared.numbers.Fault.{Fault}
use Rattle.ternary_sim.specs.Tracking.{Suits}

abbrev pub invariant-loop-split : goal.invariant-loop-split
invariant-loop-split l = record {
  back : (net : Net) (fault : Fault) (root : Start) (tree : List Item) (left : ℕ) → ClosesAt net fault root l.initial.splits l.initial.tracker.before l.initial.tracker.now tree left → ClosesAt net fault root l.splits l.tracker.before l.tracker.now tree left;
  given : length l.splits ≤ length l.tracker.before;
  suits : (net : Net) → Suits l.initial.tracker net → Suits l.tracker net;
}

abbrev pub decreases-loop-split : goal.decreases-loop-split
decreases-loop-split l = length l.splits
