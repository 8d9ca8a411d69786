use Rattle.std.proofs.Common.{length, arith}
use Rattle.wire_edit.specs.declared.room.Room.{Room}
use Rattle.wire_edit.proofs.GoingBack.{kept_holds}
use Rattle.wire_edit.proofs.trial.Trial.keep.Goals as goal

pub invariant_of-self : goal.invariant_of-self
invariant_of-self c =
    let i = c.self.inside in
    let room : Room = record { pins = i.pins; nodes = i.nodes; steps = i.made.spare } in
    let e = c.keep.ensures in
    kept_holds c.same_wiring.ensures i.graph c.keep.new.self i.undos c.keep.new.undos room i.first i.marks i.seen i.worklist c.restart-self-inside.new.self i.kept i.tidy c.restart-self-inside.result i.made.steps
    c.give_back.new.self c.spare.result c.self.invariant.0 c.self.invariant.1 e.net c.leads_back.ensures e.none e.spare e.free e.nodes c.well_formed-2.ensures.live c.restart-self-inside.ensures.same
    c.restart-self-inside.ensures.none (length i.made.steps) (omega arith) c.give_back.ensures c.spare.ensures
