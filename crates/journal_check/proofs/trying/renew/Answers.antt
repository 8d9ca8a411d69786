use Rattle.std.proofs.Common.{◌≡◌, ◌+◌, ap, arith, length, subst}
use Rattle.gate_net.specs.Net.{gate_count, source_count, wire_count}
use Rattle.gate_graph.specs.Circuit.{Circuit, live_nodes, net_of, pins_taken}
use Rattle.gate_graph.specs.Holds.{pins_held}
use Rattle.wire_edit.specs.declared.room.Room.{Room}
use Rattle.journal_check.proofs.TrialLaws.{room_nodes, room_pins}
use Rattle.journal_check.proofs.trying.renew.Goals as goal

pub make_room-requires-clause-pins : goal.make_room-requires-clause-pins
make_room-requires-clause-pins c =
    let g : Circuit = c.args.trial.now.graph in
    let held : wire_count (net_of g) + length (net_of g).observed + pins_held g ≡ pins_taken g = subst (λ (v : Circuit). wire_count (net_of v) + length (net_of v).observed + pins_held v ≡ pins_taken v) c.graph.ensures c.well_formed-2.ensures.held in
    let all = room_pins g c.steps_for-left.result c.requires.idle held c.steps_for-left.ensures.few in
    omega (arith, all, ap (λ (r : Room). r.pins) c.room_for.ensures)

pub make_room-requires-clause-nodes : goal.make_room-requires-clause-nodes
make_room-requires-clause-nodes c =
    let g : Circuit = c.args.trial.now.graph in
    let live : live_nodes g ≡ 2 + source_count (net_of g) + gate_count (net_of g) = subst (λ (v : Circuit). live_nodes v ≡ 2 + source_count (net_of v) + gate_count (net_of v)) c.graph.ensures c.well_formed-2.ensures.live in
    let all = room_nodes g c.steps_for-left.result c.requires.idle live c.steps_for-left.ensures.few in
    omega (arith, all, ap (λ (r : Room). r.nodes) c.room_for.ensures)
