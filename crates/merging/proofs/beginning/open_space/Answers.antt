use Rattle.std.proofs.Common.{sym, subst}
use Rattle.gate_graph.specs.Circuit.{net_of}
use Rattle.recursive_learning.specs.Serving.{IsServing}
use Rattle.wire_edit.specs.Order.{IsTidy}
use Rattle.wire_edit.specs.Tried.{Tried}
use Rattle.merging.specs.Inner.Going.{IsLent}
use Rattle.merging.specs.Inner.Merging.{HasBegun}
use Rattle.merging.proofs.GoingOn.{tidied_goes, tidied_stays}
use Rattle.merging.proofs.Merges.{begun_first, lent_first, room_first}
use Rattle.merging.proofs.Sizing.{HasSize}
use Rattle.merging.proofs.beginning.open_space.Goals as goal

pub tidy-requires : goal.tidy-requires
tidy-requires c = record { room = room_first c.in_ok-trial.trial (net_of c.args.graph) c.in_ok-trial.ensures.net c.tidying_ends.ensures.bounded c.well_formed-2.ensures.net c.in_ok-trial.ensures.steps }

pub returns-clause-begun : goal.returns-clause-begun
returns-clause-begun c =
    let before : HasSize c.args.graph = record { live = c.well_formed-2.ensures.live; pins = c.well_formed-2.ensures.held } in
    let now : HasSize c.keep.new.self.graph = subst HasSize c.graph.ensures (record { live = c.well_formed-3.ensures.live; pins = c.well_formed-3.ensures.held }) in
    subst (λ (t : Tried). HasBegun c.args.graph t.graph c.tidy.new.log.items) (sym c.in_ok-space.ensures.trial)
    (begun_first c.accepted_steps_keep.ensures c.args.graph c.in_ok-trial.trial c.tidy.new.trial c.keep.new.self c.new-log.result.items c.tidy.new.log.items c.well_formed-2.ensures.net before now c.requires.few c.in_ok-trial.ensures.net c.in_ok-trial.ensures.held c.in_ok-trial.ensures.steps c.in_ok-trial.ensures.entries c.new-log.ensures.items
    (tidied_goes c.in_ok-trial.trial c.tidy.new.trial c.new-log.result.items c.tidy.new.log.items c.in_ok-tidy.ensures.goes) (tidied_stays c.in_ok-trial.trial c.tidy.new.trial c.new-log.result.items c.tidy.new.log.items c.in_ok-tidy.ensures.goes) c.in_ok-tidy.ensures.goes.no_larger.wires c.keep.ensures.net c.keep.ensures.held)

pub returns-clause-ready : goal.returns-clause-ready
returns-clause-ready c =
    let before : HasSize c.args.graph = record { live = c.well_formed-2.ensures.live; pins = c.well_formed-2.ensures.held } in
    let now : HasSize c.keep.new.self.graph = subst HasSize c.graph.ensures (record { live = c.well_formed-3.ensures.live; pins = c.well_formed-3.ensures.held }) in
    let begun : HasBegun c.args.graph c.keep.new.self.graph c.tidy.new.log.items = begun_first c.accepted_steps_keep.ensures c.args.graph c.in_ok-trial.trial c.tidy.new.trial c.keep.new.self c.new-log.result.items c.tidy.new.log.items c.well_formed-2.ensures.net before now c.requires.few c.in_ok-trial.ensures.net c.in_ok-trial.ensures.held c.in_ok-trial.ensures.steps c.in_ok-trial.ensures.entries c.new-log.ensures.items
    (tidied_goes c.in_ok-trial.trial c.tidy.new.trial c.new-log.result.items c.tidy.new.log.items c.in_ok-tidy.ensures.goes) (tidied_stays c.in_ok-trial.trial c.tidy.new.trial c.new-log.result.items c.tidy.new.log.items c.in_ok-tidy.ensures.goes) c.in_ok-tidy.ensures.goes.no_larger.wires c.keep.ensures.net c.keep.ensures.held in
    let lent : IsLent c.keep.new.self = lent_first c.accepted_steps_keep.ensures c.args.graph c.in_ok-trial.trial c.tidy.new.trial c.keep.new.self c.new-log.result.items c.tidy.new.log.items c.well_formed-2.ensures.net before c.requires.few c.in_ok-trial.ensures.net c.in_ok-trial.ensures.steps c.in_ok-trial.ensures.first
    (tidied_goes c.in_ok-trial.trial c.tidy.new.trial c.new-log.result.items c.tidy.new.log.items c.in_ok-tidy.ensures.goes) (tidied_stays c.in_ok-trial.trial c.tidy.new.trial c.new-log.result.items c.tidy.new.log.items c.in_ok-tidy.ensures.goes) c.in_ok-tidy.ensures.goes.no_larger.wires c.keep.ensures.net begun.accepted c.keep.ensures.entries c.keep.ensures.room c.keep.ensures.first in
    record {
      tidy = subst (λ (t : Tried). IsTidy (net_of t.graph)) (sym c.in_ok-space.ensures.trial) (c.keep.ensures.tidy c.in_ok-tidy.ensures.tidy);
      lent = subst IsLent (sym c.in_ok-space.ensures.trial) lent;
      serves = subst (λ (t : Tried). IsServing (net_of t.graph) c.in_ok-space.space.refuter) (sym c.in_ok-space.ensures.trial) c.in_ok-space.ensures.serves;
    }
