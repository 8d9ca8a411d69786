use Rattle.std.proofs.Common.{ap, not, sym, ◌∙◌}
use Rattle.gate_graph.specs.Circuit.{net_of}
use Rattle.fault_sim.specs.Words.{assignment, lane_values}
use Rattle.journal_check.proofs.TracingLaws.{different_value, passed_on, pin_live, same_value, told_hidden, told_shown}
use Rattle.journal_check.proofs.tracing.pass.Goals as goal

pub returns-then-stuck_value-good : goal.returns-then-stuck_value-good
returns-then-stuck_value-good c =
    told_hidden (net_of c.args.graph.now) (assignment c.args.lanes.now.words c.args.lane) (lane_values c.args.lanes.now.good c.args.lane) c.args.fault c.well_formed-2.ensures.net.acyclic (c.requires.simulated c.args.lane c.requires.lane)
    (sym c.stuck_value.ensures ∙ same_value c.stuck_value.result c.value_in-good.result c.if-stuck_value-good.true ∙ c.value_in-good.ensures)

pub returns-then-is_shown : goal.returns-then-is_shown
returns-then-is_shown c =
    told_shown (net_of c.args.graph.now) (assignment c.args.lanes.now.words c.args.lane) (lane_values c.args.lanes.now.good c.args.lane) c.args.fault (c.requires.simulated c.args.lane c.requires.lane)
    (c.requires.shown c.args.fault.gate.0 c.args.lane c.requires.lane (c.is_shown.ensures c.if-is_shown.true))
    (λ e. different_value c.stuck_value.result c.value_in-good.result c.if-stuck_value-good.false (c.stuck_value.ensures ∙ e ∙ sym c.value_in-good.ensures))

pub only_pin-requires : goal.only_pin-requires
only_pin-requires c = pin_live (net_of c.args.graph.now) c.args.fault.gate.0 c.args.fault.position c.requires.pin.0 c.requires.pin.1

pub returns-in-Some : goal.returns-in-Some
returns-in-Some c =
    passed_on (net_of c.args.graph.now) (assignment c.args.lanes.now.words c.args.lane) (lane_values c.args.lanes.now.good c.args.lane) c.args.fault (record { gate = c.in-Some.gate; position = c.in-Some.position; value = not c.value_in-good.result })
    c.well_formed-2.ensures.net.acyclic (c.requires.simulated c.args.lane c.requires.lane)
    (λ e. different_value c.stuck_value.result c.value_in-good.result c.if-stuck_value-good.false (c.stuck_value.ensures ∙ e ∙ sym c.value_in-good.ensures))
    c.in-Some.ensures (ap not c.value_in-good.ensures)
