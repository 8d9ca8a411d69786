use Rattle.std.proofs.Common.{arith, drop, length, refl, subst, ◌<◌, ◌≡◌}
use Rattle.std.specs.Prelude.{IfSome}
use Rattle.gate_graph.specs.Circuit.{net_of}
use Rattle.gate_net.specs.Net.{Net, drivers_of}
use Rattle.local_evaluation.proofs.PinWalks.{few_same, left_few}
use Rattle.local_evaluation.proofs.Told.{driver_within}
use Rattle.local_evaluation.proofs.pin_walk.PinWalk.driver.Goals as goal
use Rattle.local_evaluation.proofs.pin_walk.PinWalk.driver.Goals.{else-not-is_ahead, then-not-is_ahead+in-Some}

pub go_over-requires-clause-few : goal.go_over-requires-clause-few
go_over-requires-clause-few c = elim c.if-not-is_ahead.branch [
  | then-not-is_ahead+in-Some w ↦ rw w.self-inside-is (left_few (drivers_of (net_of c.self.inside.graph.now) c.args.gate.0) _ 0 0 w.inputs_of-self-inside.ensures.drivers (omega arith) (omega arith) (few_same _ _ w.inputs_of-self-inside.ensures.drivers w.inputs_of-self-inside.ensures.few))
  | else-not-is_ahead w ↦ rw w.self-inside-is (left_few (drivers_of (net_of c.self.inside.graph.now) c.self.inside.gate.0) _ c.self.inside.position c.args.position c.self.invariant.0 (w.if-not-is_ahead.ensures.0 refl).1 (omega arith) c.self.invariant.1)
]

-- where the walk goes on
at_gate : (c : goal.After-go_over) → c.if-not-is_ahead.self-inside.rest ≡ drop c.if-not-is_ahead.self-inside.position (drivers_of (net_of c.self.inside.graph.now) c.args.gate.0)
at_gate c = elim c.if-not-is_ahead.branch [
  | then-not-is_ahead+in-Some w ↦ rw w.self-inside-is w.inputs_of-self-inside.ensures.drivers
  | else-not-is_ahead w ↦ rw (w.self-inside-is, ← (w.if-not-is_ahead.ensures.0 refl).0) c.self.invariant.0
]

pub returns-clause-within : goal.returns-clause-within
returns-clause-within c =
    let P : Net → Type 0 = λ net. IfSome c.go_over.result (λ d. d.0 < length net.nodes) in
    subst P c.self.view_is (driver_within (net_of c.self.inside.graph.now) c.well_formed-2.ensures.net c.args.gate.0 c.args.position c.go_over.result (c.go_over.ensures.driver (drivers_of (net_of c.self.inside.graph.now) c.args.gate.0) (at_gate c)))
