use Rattle.gate_graph.specs.Circuit.{net_of}
use Rattle.std.proofs.Common.{drop, length}
use Rattle.std.specs.List.{AllZip}
use Rattle.std.specs.Vec.Iter.{into_iter_items}
use Rattle.closing_pass.specs.Verdicts.{IsAnswer}
use Rattle.closing_pass.proofs.Taking.{IsTaking}
use Rattle.closing_pass.proofs.searching.search_next.Given as goal

abbrev pub invariant-loop-verdict : goal.invariant-loop-verdict
invariant-loop-verdict g l = record {
  rest : AllZip (IsAnswer (net_of l.graph) l.settings.budget) (drop l.at l.chosen.faults.items) (into_iter_items l.verdict-iterator);
  taking : IsTaking (net_of l.graph) l.settings.budget (length l.initial.kept.items) l.kept.items l.faults l.initial.found.items l.found.items l.chosen.places.items l.at;
}
