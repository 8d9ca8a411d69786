use Rattle.std.proofs.Common.{◌≡◌, ℕ, List, length, true, sym, subst, ◌∙◌, ap, arith, length-append}
use Rattle.rm_base.specs.declared.numbers.NodeId.{NodeId}
use Rattle.gate_graph.specs.Circuit.{net_of}
use Rattle.gate_net.specs.Net.{IsLive}
use Rattle.pin_pool.specs.Ring.{has}
use Rattle.test_nets.proofs.LiveNodes.{live_if, live_more}
use Rattle.test_nets.proofs.building.nodes_of.Goals as goal
use Rattle.rm_base.specs.Numbers.{numbers_of}

pub loop-number-preserved : goal.loop-number-preserved
loop-number-preserved c = record {
  live = subst (λ (ns : List NodeId). (d : ℕ) → has d (numbers_of ns) ≡ true → IsLive (net_of c.args.graph.now) d) (sym c.in_ok-push.ensures.items)
      (live_more (net_of c.args.graph.now) c.loop-number.nodes.items _ c.loop-number.invariant.live (live_if (net_of c.args.graph.now) _ _ (sym c.kind.ensures ∙ c.in-Some.is)));
  count = let more = ap length c.in_ok-push.ensures.items ∙ length-append c.loop-number.nodes.items _ in omega (arith, more, c.loop-number.invariant.count);
}
