use Rattle.std.proofs.Common.{◌≡◌, [], ap, ◌∙◌}
use Rattle.wire_edit.specs.Tried.{Tried}
use Rattle.wire_edit.proofs.GoingBack.{known_here, over_holds, reserved_holds}
use Rattle.wire_edit.proofs.trial.Trial.reserve_anew.Goals as goal

pub prepare-requires-clause-tidy : goal.prepare-requires-clause-tidy
prepare-requires-clause-tidy c =
    let i = c.self.inside in
    let none : i.undos.entries ≡ [] = c.self.invariant.1.begun.1 (ap (λ (t : Tried). t.steps) c.self.view_is ∙ c.requires.none) in
    known_here i.graph i.undos i.made.steps i.made.spare i.first i.marks i.tidy c.self.invariant.1.goes_back none

pub invariant_of-self : goal.invariant_of-self
invariant_of-self c =
    let i = c.self.inside in
    let none : i.undos.entries ≡ [] = c.self.invariant.1.begun.1 (ap (λ (t : Tried). t.steps) c.self.view_is ∙ c.requires.none) in
    reserved_holds c.same_wiring.ensures i.graph c.prepare.new.graph i.undos i.pins i.nodes i.made i.marks i.seen i.worklist i.kept i.first i.tidy c.self.invariant.0 c.self.invariant.1 none c.prepare.ensures.wiring c.prepare.ensures.reserved

pub invariant_of-self-2 : goal.invariant_of-self-2
invariant_of-self-2 c =
    let i = c.self.inside in
    let none : i.undos.entries ≡ [] = c.self.invariant.1.begun.1 (ap (λ (t : Tried). t.steps) c.self.view_is ∙ c.requires.none) in
    let known = known_here i.graph i.undos i.made.steps i.made.spare i.first i.marks i.tidy c.self.invariant.1.goes_back none in
    let o = c.in_ok-undos in
    let p = o.ensures.parts in
    over_holds c.same_wiring.ensures i.graph c.prepare.new.graph o.undos c.args.room o.made o.marks o.seen o.worklist o.kept i.tidy p.0 p.1.0 p.1.1.0 p.1.1.1.0 p.1.1.1.1.0 p.1.1.1.1.1
    c.well_formed-2.ensures.live o.ensures.net known
