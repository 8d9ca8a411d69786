use Rattle.std.proofs.Common.{ap, sym, Some, None, ◌∙◌, ℕ}
use Rattle.pin_pool.specs.Ring.{has}
use Rattle.pin_pool.specs.Pins.{list_of}
use Rattle.gate_graph.specs.Circuit.{Circuit}
use Rattle.gate_graph.proofs.NetOf.{home-here}
use Rattle.gate_graph.proofs.Pinned.{driver-at, pin-in, linked-by, map-none}
use Rattle.gate_graph.proofs.state.Graph.driver.Goals as goal

pub driver_of-requires : goal.driver_of-requires
driver_of-requires c =
    let v = c.args.self.now in
    rw (← c.self.view_is) at (linked-by v c.in-Some.ensures.graph.wired.shape c.args.gate.0 c.in-Some.pin.0 (pin-in v c.in-Some.ensures.graph.wired.shape c.args.gate.0 c.args.position c.in-Some.pin.0 c.in-Some.ensures.pin))

pub returns-in_default : goal.returns-in_default
returns-in_default c = driver-at c.args.self.now c.pin_at.ensures.graph.wired.shape c.args.gate.0 c.args.position None (sym (map-none _ c.pin_at.result c.in_default.not-Some) ∙ c.pin_at.ensures.pin)

pub returns : goal.returns
returns c =
    let v = c.args.self.now in
    let r = c.in-Some.ensures in
    ap (λ (n : ℕ). Some n) (sym (home-here v.pool.fanouts _ c.in-Some.pin.0 c.driver_of.result r.rings.fanouts (ap (λ (u : Circuit). has c.in-Some.pin.0 (list_of u.pool.fanouts c.driver_of.result)) (sym c.self.view_is) ∙ c.driver_of.ensures.driver)))
    ∙ driver-at v r.graph.wired.shape c.args.gate.0 c.args.position (Some c.in-Some.pin.0) r.pin
