use Rattle.std.proofs.Common.{◌≡◌, ◌∙◌, ap, sym, subst, true, arith}
use Rattle.gate_graph.specs.Circuit.{net_of}
use Rattle.wire_edit.specs.declared.room.Room.{Room}
use Rattle.wire_edit.specs.Steps.{Applies, change_of, stepped}
use Rattle.wire_edit.specs.Refusals.{has_room}
use Rattle.wire_edit.specs.Tried.{Tried}
use Rattle.wire_edit.specs.Inner.Trials.{IsTrial}
use Rattle.gate_net.specs.Net.{Net}
use Rattle.wire_edit.specs.Inner.Known.{IsKept}
use Rattle.wire_edit.proofs.TrialSteps.{step_can_edit, step_entries, step_net, step_trial}
use Rattle.wire_edit.proofs.Trying.{not_empty, room_left}
use Rattle.wire_edit.proofs.GoingBack.{step_back}
use Rattle.wire_edit.proofs.trial.Trial.make.Goals as goal

pub carry_out-requires-clause-can : goal.carry_out-requires-clause-can
carry_out-requires-clause-can c =
    let i = c.self.inside in
    let room : Room = record { pins = i.pins; nodes = i.nodes; steps = i.made.spare } in
    step_can_edit i.graph i.undos room i.marks i.worklist c.args.step c.well_formed-2.ensures.net c.self.invariant.0
    (subst (λ (t : Tried). Applies (net_of t.graph) c.args.step) (sym c.self.view_is) c.requires.applies) (subst (λ (t : Tried). has_room (net_of t.graph) t.room c.args.step ≡ true) (sym c.self.view_is) c.requires.room)

pub carry_out-requires-clause-entries : goal.carry_out-requires-clause-entries
carry_out-requires-clause-entries c =
    let i = c.self.inside in
    let room : Room = record { pins = i.pins; nodes = i.nodes; steps = i.made.spare } in
    step_entries i.graph i.undos room i.marks i.worklist c.args.step c.well_formed-2.ensures.net c.self.invariant.0
    (subst (λ (t : Tried). Applies (net_of t.graph) c.args.step) (sym c.self.view_is) c.requires.applies) (subst (λ (t : Tried). has_room (net_of t.graph) t.room c.args.step ≡ true) (sym c.self.view_is) c.requires.room)

pub invariant_of-self : goal.invariant_of-self
invariant_of-self c =
    let i = c.self.inside in
    let room : Room = record { pins = i.pins; nodes = i.nodes; steps = i.made.spare } in
    let e = c.carry_out.ensures in (
      subst (λ (r : Room). IsTrial c.carry_out.new.graph c.carry_out.new.undos r i.marks c.carry_out.new.worklist) (sym (room_left room c.args.step c.pins_made.result c.nodes_made.result c.push.new.self.spare c.pins_made.ensures c.nodes_made.ensures c.push.ensures.spare))
          (step_trial i.graph i.undos room i.marks i.worklist c.args.step c.well_formed-2.ensures.net c.self.invariant.0
          (subst (λ (t : Tried). Applies (net_of t.graph) c.args.step) (sym c.self.view_is) c.requires.applies) (subst (λ (t : Tried). has_room (net_of t.graph) t.room c.args.step ≡ true) (sym c.self.view_is) c.requires.room)
          c.carry_out.new.graph c.carry_out.new.undos c.carry_out.new.worklist c.well_formed-3.ensures.net e.edits e.undos e.spent e.few e.marks e.touched),
      record {
        begun = (λ none. absurd (e.left none), λ none. absurd (not_empty i.made.steps c.args.step (sym c.push.ensures.steps ∙ none)));
        seen_suffices = c.self.invariant.1.seen_suffices;
        kept_suffices = omega (arith, c.self.invariant.1.kept_suffices, c.ready_for.ensures.same);
        known = subst (λ (n : Net). IsKept n c.ready_for.new.self) (sym (step_net i.graph i.undos room i.marks i.worklist c.args.step c.well_formed-2.ensures.net c.self.invariant.0 (subst (λ (t : Tried). Applies (net_of t.graph) c.args.step) (sym c.self.view_is) c.requires.applies) (subst (λ (t : Tried). has_room (net_of t.graph) t.room c.args.step ≡ true) (sym c.self.view_is) c.requires.room) c.carry_out.new.graph c.carry_out.new.undos c.carry_out.new.worklist c.well_formed-3.ensures.net e.edits e.undos e.spent e.few)) c.ready_for.ensures.kept;
        goes_back = step_back i.graph c.carry_out.new.graph i.undos c.carry_out.new.undos i.made.steps c.args.step (change_of (net_of i.graph) c.args.step) i.made.spare c.push.new.self.spare i.first i.marks i.tidy
            c.push.new.self.steps c.push.ensures.steps c.self.invariant.1.goes_back e.edits e.undos e.together e.spent e.numbers c.push.ensures.spare;
      },
    )

pub returns-clause-net : goal.returns-clause-net
returns-clause-net c =
    let i = c.self.inside in
    let room : Room = record { pins = i.pins; nodes = i.nodes; steps = i.made.spare } in
    let e = c.carry_out.ensures in
    step_net i.graph i.undos room i.marks i.worklist c.args.step c.well_formed-2.ensures.net c.self.invariant.0
    (subst (λ (t : Tried). Applies (net_of t.graph) c.args.step) (sym c.self.view_is) c.requires.applies) (subst (λ (t : Tried). has_room (net_of t.graph) t.room c.args.step ≡ true) (sym c.self.view_is) c.requires.room)
    c.carry_out.new.graph c.carry_out.new.undos c.carry_out.new.worklist c.well_formed-3.ensures.net e.edits e.undos e.spent e.few
    ∙ ap (λ (t : Tried). stepped (net_of t.graph) c.args.step) c.self.view_is
