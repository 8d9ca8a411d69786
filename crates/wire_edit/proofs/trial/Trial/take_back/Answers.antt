use Rattle.std.proofs.Common.{sym, ◌∙◌, ap, arith}
use Rattle.std.proofs.lemmas.Bool.{both_ways}
use Rattle.wire_edit.specs.declared.room.Room.{Room}
use Rattle.wire_edit.specs.Tried.{start_of}
use Rattle.wire_edit.proofs.GoingBack.{back_holds}
use Rattle.wire_edit.proofs.trial.Trial.take_back.Goals as goal

pub invariant_of-self : goal.invariant_of-self
invariant_of-self c =
    let i = c.self.inside in
    let room : Room = record { pins = i.pins; nodes = i.nodes; steps = i.made.spare } in
    let e = c.undo.ensures in
    back_holds c.same_wiring.ensures i.graph c.undo.new.self i.undos c.undo.new.undos i.made.steps i.made.spare room i.first i.marks i.seen i.worklist c.clear_recent.new.self i.kept c.forget.new.self i.tidy c.give_back.new.self
    c.self.invariant.0 c.self.invariant.1 c.forget.ensures.fresh c.forget.ensures.same e.wiring c.leads_back.ensures e.none e.spare (omega (arith, e.free, e.made)) e.numbers c.well_formed-3.ensures.live c.well_formed-3.ensures.nodes c.clear_recent.ensures.count
    (λ no_tidy. absurd (both_ways i.tidy no_tidy c.if-self.true)) c.give_back.ensures

pub invariant_of-self-else-self : goal.invariant_of-self-else-self
invariant_of-self-else-self c =
    let i = c.self.inside in
    let room : Room = record { pins = i.pins; nodes = i.nodes; steps = i.made.spare } in
    let e = c.undo.ensures in
    back_holds c.same_wiring.ensures i.graph c.undo.new.self i.undos c.undo.new.undos i.made.steps i.made.spare room i.first i.marks i.seen i.worklist c.mark_all.new.self i.kept c.forget.new.self i.tidy c.give_back.new.self
    c.self.invariant.0 c.self.invariant.1 c.forget.ensures.fresh c.forget.ensures.same e.wiring c.leads_back.ensures e.none e.spare (omega (arith, e.free, e.made)) e.numbers c.well_formed-3.ensures.live c.well_formed-3.ensures.nodes c.mark_all.ensures.count
    (λ _. c.mark_all.ensures.all) c.give_back.ensures

pub returns-then-self-clause-graph : goal.returns-then-self-clause-graph
returns-then-self-clause-graph c = λ v e. c.same_wiring.ensures c.undo.new.self v (c.undo.ensures.wiring ∙ ap start_of c.self.view_is ∙ sym e)

pub returns-else-self-clause-graph : goal.returns-else-self-clause-graph
returns-else-self-clause-graph c = λ v e. c.same_wiring.ensures c.undo.new.self v (c.undo.ensures.wiring ∙ ap start_of c.self.view_is ∙ sym e)
