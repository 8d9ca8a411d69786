use Rattle.std.proofs.Common.{◌≡◌, [], ap, refl, ◌∙◌}
use Rattle.wire_edit.specs.declared.room.Room.{Room}
use Rattle.wire_edit.specs.Tried.{Tried}
use Rattle.wire_edit.proofs.GoingBack.{offered_holds}
use Rattle.wire_edit.proofs.trial.Trial.make_room.Goals as goal

pub invariant_of-self : goal.invariant_of-self
invariant_of-self c =
    let i = c.self.inside in
    let was : Room = record { pins = i.pins; nodes = i.nodes; steps = i.made.spare } in
    let none_made : i.made.steps ≡ [] = ap (λ (t : Tried). t.steps) c.self.view_is ∙ c.requires.none in
    offered_holds c.same_wiring.ensures i.graph i.undos c.args.room was i.made c.offer.new.self i.marks i.seen i.worklist i.kept i.first i.tidy c.self.invariant.0 c.self.invariant.1 (c.self.invariant.1.begun.1 none_made) none_made
    (c.if-offer.ensures.given refl) (c.if-is_enough.ensures refl) c.well_formed-2.ensures.live
