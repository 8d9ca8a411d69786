use Rattle.gate_graph.specs.Circuit.{net_of}
use Rattle.gate_net.specs.Net.{Net}
use Rattle.podem.proofs.branching.search_tree.Given as goal
use Rattle.podem.specs.Inner.Going.{AreOpen}
use Rattle.ternary_sim.specs.Regions.{IsCurrent}
use Rattle.ternary_sim.specs.Tracking.{Suits}

abbrev pub invariant-loop-splits : goal.invariant-loop-splits
invariant-loop-splits l = record {
  opened : AreOpen (net_of l.question.graph.now) l.question.fault (record { marks = l.initial.tracker.now; items = l.initial.tree; left = l.initial.left }) l.splits l.tracker.before
      (record { marks = l.tracker.now; items = l.tree; left = l.left });
  current : IsCurrent (net_of l.question.graph.now) l.question.fault l.tracker.now;
  suits : (net : Net) → Suits l.initial.tracker net → Suits l.tracker net;
}

abbrev pub decreases-loop-splits : goal.decreases-loop-splits
decreases-loop-splits l = l.left
