use Rattle.std.proofs.Common.{length, take, ℕ, ◌<◌, ◌≡◌, ◌≤◌}
use Rattle.std.specs.Prelude.{Some, slice_get}
use Rattle.std.specs.List.{AllZip}
use Rattle.fault_sim.specs.LaneStates.{Fits}
use Rattle.gate_graph.specs.Circuit.{net_of}
use Rattle.podem.specs.Searchers.{Serves}
use Rattle.recursive_learning.specs.Serving.{IsServing}
use Rattle.refutation.specs.Detected.{HasOpenSet}
use Rattle.rm_base.specs.declared.numbers.Fault.{Fault}
use Rattle.care_opt.specs.Done.{IsRecordOf}
use Rattle.care_opt.specs.Inner.Kept.{AreKept}
use Rattle.care_opt.proofs.closing.judge_all.Given as goal

abbrev pub invariant-loop-at : goal.invariant-loop-at
invariant-loop-at l = record {
  within : l.at ≤ length l.faults;
  records : AllZip (IsRecordOf (net_of l.graph) l.budget) (take l.at l.faults) l.records.items;
  unrefuted : (k : ℕ) (fault : Fault) → k < l.at → slice_get l.faults k ≡ Some fault → HasOpenSet (net_of l.graph) fault l.depth;
  refutes : IsServing (net_of l.graph) l.refuter;
  kept : AreKept l.vectors (net_of l.graph);
  searches : Serves l.tools.searcher (net_of l.graph);
  fits : Fits l.tools.lanes (net_of l.graph);
}
