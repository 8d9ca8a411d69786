use Rattle.std.proofs.Common.{arith, inl, inr, length, subst, sym, ℕ, ◌≡◌}
use Rattle.std.proofs.lemmas.List.{length-map}
use Rattle.gate_graph.specs.Circuit.{net_of}
use Rattle.rm_base.specs.declared.numbers.NodeId.{NodeId}
use Rattle.fault_sim.proofs.Detection.{seen_lanes}
use Rattle.fault_sim.proofs.Lists.{below_or}
use Rattle.fault_sim.specs.Inner.Spreading.{IsSpread}
use Rattle.fault_sim.proofs.spreading.seen_from.Goals as goal
use Rattle.rm_base.specs.Numbers.{numbers_of}

pub rest-requires-clause-idle : goal.rest-requires-clause-idle
rest-requires-clause-idle c k =
    let few : length (numbers_of c.args.order.now) ≡ length c.args.order.now = length-map c.args.order.now (λ (n : NodeId). n.0) in
    elim (below_or k (length c.args.order.now)) [ inl before ↦ c.spread_root-found.ensures.spread.read k before | inr past ↦ c.spread_root-found.ensures.spread.past k (omega arith) ]

pub returns-clause-seen : goal.returns-clause-seen
returns-clause-seen c i h =
    let P : ℕ → Type 0 = λ n. IsSpread (net_of c.args.graph.now) c.args.root.0 c.args.word c.args.words.now (numbers_of c.args.order.now) c.args.good.now c.spread_root-found.new.spread n c.spread_root-found.result in
    seen_lanes (net_of c.args.graph.now) c.args.root.0 c.args.word c.args.words.now (numbers_of c.args.order.now) c.args.places.now c.args.good.now c.well_formed-2.ensures.net c.requires.order c.requires.values
    c.spread_root-found.new.spread c.spread_root-found.result c.spread_root-found.ensures.lanes
    (subst P (sym (length-map c.args.order.now (λ (n : NodeId). n.0))) c.spread_root-found.ensures.spread) i h
