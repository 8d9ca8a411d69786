use Rattle.std.proofs.Common.{◌≡◌, ◌+◌, ◌≤◌, ap, subst, arith}
use Rattle.gate_graph.specs.Circuit.{net_of}
use Rattle.gate_graph.specs.Holds.{pins_held}
use Rattle.wire_edit.specs.Work.{work}
use Rattle.wire_edit.specs.Tried.{Tried}
use Rattle.recorded_removals.specs.Going.{Goes}
use Rattle.rar_loop.specs.Inner.Swept.{HasSwept}
use Rattle.rar_loop.specs.Inner.Improving.{HasBegun}
use Rattle.recorded_removals.proofs.Public.{tallies_then}
use Rattle.rar_loop.proofs.Sizing.{HasSize, held_back}
use Rattle.rar_loop.proofs.Looping.{begun_again, begun_first, err_ok, room_first}
use Rattle.rar_loop.proofs.beginning.swept_graph.Goals as goal

pub tidy-requires : goal.tidy-requires
tidy-requires c = record { room = room_first c.in_ok-trial.trial (net_of c.args.graph) c.in_ok-trial.ensures.net c.tidying_ends.ensures.bounded c.well_formed-2.ensures.net c.in_ok-trial.ensures.steps }

pub sweep-requires-clause-room : goal.sweep-requires-clause-room
sweep-requires-clause-room c =
    let first : work (net_of c.in_ok-trial.trial.graph) ≤ c.in_ok-trial.trial.room.steps = room_first c.in_ok-trial.trial (net_of c.args.graph) c.in_ok-trial.ensures.net c.tidying_ends.ensures.bounded c.well_formed-2.ensures.net c.in_ok-trial.ensures.steps in
    let zero : work (net_of c.tidy.new.trial.graph) + 0 ≤ c.tidy.new.trial.room.steps = c.in_ok-tidy.ensures.goes.room 0 (omega (arith, first)) in
    let w : work (net_of c.in_ok-space.space.trial.graph) ≡ work (net_of c.tidy.new.trial.graph) = ap (λ (t : Tried). work (net_of t.graph)) c.in_ok-space.ensures.trial in
    let r : c.in_ok-space.space.trial.room.steps ≡ c.tidy.new.trial.room.steps = ap (λ (t : Tried). t.room.steps) c.in_ok-space.ensures.trial in
    omega (arith, zero, w, r)

pub returns-clause-begun : goal.returns-clause-begun
returns-clause-begun c =
    let second : Goes c.tidy.new.trial c.sweep.new.space.trial c.tidy.new.log.items c.sweep.new.log.items = subst (λ (t : Tried). Goes t c.sweep.new.space.trial c.tidy.new.log.items c.sweep.new.log.items) c.in_ok-space.ensures.trial c.in_ok-sweep.ensures.goes in
    let swept : HasSwept (net_of c.tidy.new.trial.graph) (net_of c.sweep.new.space.trial.graph) c.args.depth = subst (λ (t : Tried). HasSwept (net_of t.graph) (net_of c.sweep.new.space.trial.graph) c.args.depth) c.in_ok-space.ensures.trial c.in_ok-sweep.ensures.swept in
    let size : HasSize c.keep.new.self.graph = subst HasSize c.graph.ensures (record { live = c.well_formed-3.ensures.live; pins = c.well_formed-3.ensures.held }) in
    let held : pins_held c.keep.new.self.graph ≡ pins_held c.args.graph = held_back c.args.graph c.in_ok-trial.trial c.sweep.new.space.trial c.keep.new.self.graph c.in_ok-trial.ensures.held c.in_ok-trial.ensures.entries (tallies_then c.in_ok-trial.trial c.tidy.new.trial c.sweep.new.space.trial c.new-log.result.items c.tidy.new.log.items c.sweep.new.log.items c.in_ok-tidy.ensures.goes.tallies second.tallies).holds c.keep.ensures.held in
    let begun : HasBegun c.args.graph c.args.depth c.keep.new.self.graph c.sweep.new.log.items =
    begun_first c.accepted_steps_keep.ensures c.args.graph c.args.depth c.in_ok-trial.trial c.tidy.new.trial c.sweep.new.space.trial c.keep.new.self.graph c.new-log.result.items c.tidy.new.log.items c.sweep.new.log.items c.well_formed-2.ensures.net
    (record { live = c.well_formed-2.ensures.live; pins = c.well_formed-2.ensures.held }) size c.requires.few
    c.in_ok-trial.ensures.net c.in_ok-trial.ensures.steps c.new-log.ensures.items c.in_ok-tidy.ensures.goes second c.in_ok-sweep.ensures.tidy swept c.keep.ensures.net held in
    begun_again c.args.graph c.args.depth c.keep.new.self.graph c.into_graph-swept.result c.sweep.new.log.items begun c.into_graph-swept.ensures

pub returns-in_err-sweep-clause-begun : goal.returns-in_err-sweep-clause-begun
returns-in_err-sweep-clause-begun c = err_ok c.from_residual-in_err-sweep.result _ _ c.from_residual-in_err-sweep.ensures.1
