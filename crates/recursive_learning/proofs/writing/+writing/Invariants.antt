use Rattle.std.proofs.Common.{map, ◌*◌, ◌+◌, ◌≢◌}
use Rattle.gate_graph.specs.Circuit.{net_of}
use Rattle.recursive_learning.proofs.Writes.{CasesWriting, Going, GoodsWriting, PassWriting}
use Rattle.recursive_learning.specs.Watching.{LeavesList}
use Rattle.refutation.specs.FactSets.{held_by, missing}
use Rattle.refutation.specs.Learning.{LeadsToClash}
use Rattle.recursive_learning.proofs.writing.+writing.Given as goal

abbrev pub decreases-write : goal.decreases-write
decreases-write l = 10 * l.depth

abbrev pub decreases-write_branches : goal.decreases-write_branches
decreases-write_branches l = 10 * l.depth + 1

abbrev pub decreases-write_case : goal.decreases-write_case
decreases-write_case l = 10 * l.depth + 2

abbrev pub decreases-write_cases : goal.decreases-write_cases
decreases-write_cases l = 10 * l.depth + 3

abbrev pub decreases-write_split : goal.decreases-write_split
decreases-write_split l = 10 * l.depth + 4

abbrev pub decreases-write_good : goal.decreases-write_good
decreases-write_good l = 10 * l.depth + 5

abbrev pub decreases-write_goods : goal.decreases-write_goods
decreases-write_goods l = 10 * l.depth + 6

abbrev pub decreases-write_gate : goal.decreases-write_gate
decreases-write_gate l = 10 * l.depth + 7

abbrev pub decreases-write_pass : goal.decreases-write_pass
decreases-write_pass l = 10 * l.depth + 9

abbrev pub decreases-write_each : goal.decreases-write_each
decreases-write_each l = 10 * l.depth + 8

abbrev pub invariant-write-loop : goal.invariant-write-loop
invariant-write-loop l = record {
  going : Going (net_of l.question.graph.now) l.question.fault l.initial.engine l.engine l.initial.facts l.facts l.initial.tree l.tree;
  clash : LeadsToClash (net_of l.question.graph.now) l.question.fault l.depth (held_by l.facts);
  deep : l.depth ≢ 0;
  leaves : LeavesList l.fn.watch l.watch;
}

abbrev pub decreases-write-loop : goal.decreases-write-loop
decreases-write-loop l = missing l.facts

abbrev pub invariant-write_each-loop-gate : goal.invariant-write_each-loop-gate
invariant-write_each-loop-gate l = record {
  passing : PassWriting (net_of l.question.graph.now) l.question.fault l.depth l.gates l.gate-index l.initial.engine l.engine l.initial.facts l.facts l.initial.tree l.tree;
  leaves : LeavesList l.fn.watch l.watch;
}

abbrev pub invariant-write_goods-loop-good : goal.invariant-write_goods-loop-good
invariant-write_goods-loop-good l = record {
  writing : GoodsWriting (net_of l.question.graph.now) l.question.fault l.good-index l.initial.engine l.engine l.initial.facts l.facts l.initial.tree l.tree;
  leaves : LeavesList l.fn.watch l.watch;
}

abbrev pub invariant-write_cases-loop-driver : goal.invariant-write_cases-loop-driver
invariant-write_cases-loop-driver l = record {
  writing : CasesWriting (net_of l.question.graph.now) l.question.fault l.choice.value (map (λ n. n.0) l.choice.drivers.now) l.driver-index l.initial.engine l.engine l.initial.facts l.facts l.initial.tree l.tree;
  leaves : LeavesList l.fn.watch l.watch;
}
