use Rattle.std.proofs.Common.{arith, inl, inr}
use Rattle.gate_graph.proofs.KindAt.{wired-set, live-set}
use Rattle.gate_graph.proofs.undoing.take_back.Goals as goal

pub returns-then-node-least-clause-wiring : goal.returns-then-node-least-clause-wiring
returns-then-node-least-clause-wiring c =
    rw c.in-Made.is (wired-set c.args.kinds.now.items c.set_kind.new.kinds.items c.args.pool.now c.drop_pin-in-Made.new.pool _ _ _ c.set_kind.ensures.kinds c.drop_pin-in-Made.ensures.rings)

pub returns-else-node-least-clause-wiring : goal.returns-else-node-least-clause-wiring
returns-else-node-least-clause-wiring c =
    rw c.in-Made.is (wired-set c.args.kinds.now.items c.set_kind.new.kinds.items c.args.pool.now c.drop_pin-in-Made.new.pool _ _ _ c.set_kind.ensures.kinds c.drop_pin-in-Made.ensures.rings)

pub returns-in-Retired-clause-wiring : goal.returns-in-Retired-clause-wiring
returns-in-Retired-clause-wiring c = rw c.in-Retired.is (c.set_kind-in-Retired.ensures.kinds c.args.pool.now)

pub returns-then-node-least-clause-live : goal.returns-then-node-least-clause-live
returns-then-node-least-clause-live c =
    live-set c.args.kinds.now.items _ c.args.pool.now _ _ c.args.least.now c.in-Made.node c.set_kind.ensures.kinds c.requires.live (omega arith) (inl (omega arith))

pub returns-else-node-least-clause-live : goal.returns-else-node-least-clause-live
returns-else-node-least-clause-live c =
    live-set c.args.kinds.now.items _ c.args.pool.now _ _ c.args.least.now c.args.least.now c.set_kind.ensures.kinds c.requires.live (omega arith) (inl (omega arith))

pub returns-in-Retired-clause-live : goal.returns-in-Retired-clause-live
returns-in-Retired-clause-live c =
    live-set c.args.kinds.now.items _ c.args.pool.now _ _ c.args.least.now c.args.least.now c.set_kind-in-Retired.ensures.kinds c.requires.live (omega arith) (inr (λ e. cc))

pub returns-in-Turned-clause-wiring : goal.returns-in-Turned-clause-wiring
returns-in-Turned-clause-wiring c =
    rw c.in-Turned.is (wired-set c.args.kinds.now.items c.set_kind-in-Turned.new.kinds.items c.args.pool.now c.relink_pin-in-Turned.new.pool _ _ _ c.set_kind-in-Turned.ensures.kinds c.relink_pin-in-Turned.ensures.rings)

pub returns-in-Turned-clause-live : goal.returns-in-Turned-clause-live
returns-in-Turned-clause-live c =
    live-set c.args.kinds.now.items _ c.args.pool.now _ _ c.args.least.now c.args.least.now c.set_kind-in-Turned.ensures.kinds c.requires.live (omega arith) (inr (λ e. cc))
