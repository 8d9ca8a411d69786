use Rattle.std.proofs.Common.{sym, subst}
use Rattle.gate_net.specs.Net.{IsWellFormed, Net}
use Rattle.gate_graph.specs.Circuit.{Circuit, net_of}
use Rattle.recursive_learning.specs.Serving.{IsServing}
use Rattle.wire_edit.specs.Order.{IsTidy}
use Rattle.wire_edit.specs.Tried.{Tried}
use Rattle.merging.specs.Inner.Going.{IsBack, Pays}
use Rattle.merging.proofs.Merges.{lent_kept, merged_one, merged_same, room_for}
use Rattle.merging.proofs.Sizing.{HasSize}
use Rattle.merging.proofs.trying.try_merge.Goals as goal

pub merge_and_settle-requires-clause-room : goal.merge_and_settle-requires-clause-room
merge_and_settle-requires-clause-room c =
    let formed : IsWellFormed (net_of c.args.space.now.trial.graph) = subst (λ (v : Circuit). IsWellFormed (net_of v)) c.graph.ensures c.well_formed-2.ensures.net in
    room_for c.args.space.now.trial c.tidying_ends.ensures.bounded formed c.requires.ready.lent

pub returns-then-pays-clause-ready : goal.returns-then-pays-clause-ready
returns-then-pays-clause-ready c =
    let t : Tried = c.args.space.now.trial in
    let formed : IsWellFormed (net_of t.graph) = subst (λ (v : Circuit). IsWellFormed (net_of v)) c.graph.ensures c.well_formed-2.ensures.net in
    let pays : Pays t c.merge_and_settle.new.space.trial c.new-records.result.items c.merge_and_settle.new.log.items = c.in_ok-pays.ensures.pays c.if-pays.true in
    let k = c.keep.ensures.kept in
    record {
      tidy = subst IsTidy (sym k.net) pays.tidy;
      lent = lent_kept c.accepted_steps_keep.ensures t c.merge_and_settle.new.space.trial c.keep.new.space.trial c.new-records.result.items c.merge_and_settle.new.log.items formed c.requires.ready.lent c.new-records.ensures.items pays.goes c.in_ok-pays.ensures.follows.stays k.entries k.room k.first k.net pays.fewer;
      serves = subst (λ (n : Net). IsServing n c.keep.new.space.refuter) (sym k.net) (subst (IsServing (net_of c.merge_and_settle.new.space.trial.graph)) (sym k.refuter) c.in_ok-pays.ensures.follows.serves);
    }

pub returns-then-pays-clause-merged : goal.returns-then-pays-clause-merged
returns-then-pays-clause-merged c =
    let t : Tried = c.args.space.now.trial in
    let formed : IsWellFormed (net_of t.graph) = subst (λ (v : Circuit). IsWellFormed (net_of v)) c.graph.ensures c.well_formed-2.ensures.net in
    let size : HasSize t.graph = subst HasSize c.graph.ensures (record { live = c.well_formed-2.ensures.live; pins = c.well_formed-2.ensures.held }) in
    let now : HasSize c.keep.new.space.trial.graph = subst HasSize c.graph-then-pays.ensures (record { live = c.well_formed-then-pays.ensures.live; pins = c.well_formed-then-pays.ensures.held }) in
    let pays : Pays t c.merge_and_settle.new.space.trial c.new-records.result.items c.merge_and_settle.new.log.items = c.in_ok-pays.ensures.pays c.if-pays.true in
    let k = c.keep.ensures.kept in
    merged_one c.accepted_steps_keep.ensures t c.merge_and_settle.new.space.trial c.keep.new.space.trial.graph c.new-records.result.items c.merge_and_settle.new.log.items c.args.log.now.items c.keep.new.log.items formed size now c.requires.ready.lent c.new-records.ensures.items pays.goes c.in_ok-pays.ensures.follows.stays
    k.net k.holds pays.fewer c.in_ok-keep.ensures.log

pub give_back-requires : goal.give_back-requires
give_back-requires c = record { back = (record c.args.space.now { touched = c.clear.new.self }, (c.requires.ready.lent, (c.clear.ensures.items, c.in_ok-pays.ensures.follows))) }

pub returns-clause-ready : goal.returns-clause-ready
returns-clause-ready c =
    let b : IsBack (record c.args.space.now { touched = c.clear.new.self }) c.give_back.new.space = c.in_ok-give_back.ensures.back (record c.args.space.now { touched = c.clear.new.self }) c.requires.ready.lent c.clear.ensures.items c.in_ok-pays.ensures.follows in
    record { tidy = subst IsTidy (sym b.net) c.requires.ready.tidy; lent = b.lent; serves = b.serves }

pub returns-clause-merged : goal.returns-clause-merged
returns-clause-merged c =
    let t : Tried = c.args.space.now.trial in
    let size : HasSize t.graph = subst HasSize c.graph.ensures (record { live = c.well_formed-2.ensures.live; pins = c.well_formed-2.ensures.held }) in
    let now : HasSize c.give_back.new.space.trial.graph = subst HasSize c.graph-2.ensures (record { live = c.well_formed-3.ensures.live; pins = c.well_formed-3.ensures.held }) in
    let b : IsBack (record c.args.space.now { touched = c.clear.new.self }) c.give_back.new.space = c.in_ok-give_back.ensures.back (record c.args.space.now { touched = c.clear.new.self }) c.requires.ready.lent c.clear.ensures.items c.in_ok-pays.ensures.follows in
    merged_same t.graph c.give_back.new.space.trial.graph c.args.log.now.items size now b.net b.holds
