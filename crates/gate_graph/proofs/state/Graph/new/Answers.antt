use Rattle.std.proofs.Common.{ap, arith, ◌+◌, ◌∙◌}
use Rattle.std.proofs.lemmas.Grind.{common_steps}
use Rattle.std.specs.Ordering.{nat_cmp}
use Rattle.std.specs.FinSet as finset
use Rattle.gate_graph.proofs.Fresh.{kinds-new, graph-new}
use Rattle.gate_graph.proofs.Numbers.{free-first, live-first, dead-first}
use Rattle.gate_graph.proofs.Started.{net-started, fanouts-started}
use Rattle.gate_graph.proofs.HeldPins.{none-taken}
use Rattle.gate_graph.proofs.state.Graph.new.Goals as goal

pub reserve-requires-clause-pins : goal.reserve-requires-clause-pins
reserve-requires-clause-pins c = rw (c.new-pool.ensures.taken, finset.len-empty nat_cmp) (omega arith)

pub returns-clause-net : goal.returns-clause-net
returns-clause-net c =
    net-started _ c.args.sources (kinds-new c.resize.new.self.items (c.args.sources + 2) c.args.sources (grind (arith, common_steps, c.in-Ok-resize.ensures.items, c.new-kinds.ensures.items)) (omega arith))
    (c.reserve.ensures.rings ∙ c.new-pool.ensures.rings)

pub returns-clause-fanouts : goal.returns-clause-fanouts
returns-clause-fanouts c n = fanouts-started _ (c.reserve.ensures.rings ∙ c.new-pool.ensures.rings) n

pub invariant_of-result : goal.invariant_of-result
invariant_of-result c = (
  graph-new _ c.reserve.new.self c.args.sources (kinds-new c.resize.new.self.items (c.args.sources + 2) c.args.sources (grind (arith, common_steps, c.in-Ok-resize.ensures.items, c.new-kinds.ensures.items)) (omega arith))
      (c.reserve.ensures.rings ∙ c.new-pool.ensures.rings) (omega (arith, c.in-Ok.ensures.nodes)) c.requires,
  (λ m h. absurd (omega arith), (dead-first _ c.args.sources (kinds-new c.resize.new.self.items (c.args.sources + 2) c.args.sources (grind (arith, common_steps, c.in-Ok-resize.ensures.items, c.new-kinds.ensures.items)) (omega arith)), free-first _ c.args.sources (kinds-new c.resize.new.self.items (c.args.sources + 2) c.args.sources (grind (arith, common_steps, c.in-Ok-resize.ensures.items, c.new-kinds.ensures.items)) (omega arith)))),
)

pub returns-clause-pins : goal.returns-clause-pins
returns-clause-pins c = ap finset.len (c.reserve.ensures.taken ∙ c.new-pool.ensures.taken) ∙ finset.len-empty nat_cmp

pub returns-clause-nodes : goal.returns-clause-nodes
returns-clause-nodes c =
    let kinds = kinds-new c.resize.new.self.items (c.args.sources + 2) c.args.sources (grind (arith, common_steps, c.in-Ok-resize.ensures.items, c.new-kinds.ensures.items)) (omega arith) in
    live-first _ c.args.sources kinds

pub returns-clause-held : goal.returns-clause-held
returns-clause-held c = none-taken _ (returns-clause-pins c)
