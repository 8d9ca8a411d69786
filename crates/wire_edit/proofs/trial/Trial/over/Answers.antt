use Rattle.wire_edit.proofs.GoingBack.{over_holds}
use Rattle.wire_edit.proofs.trial.Trial.over.Goals as goal

pub invariant_of-result : goal.invariant_of-result
invariant_of-result c =
    let p = c.in-Ok.ensures.parts in
    over_holds c.same_wiring.ensures c.args.graph c.prepare.new.graph c.in-Ok.undos c.args.room c.in-Ok.made c.in-Ok.marks c.in-Ok.seen c.in-Ok.worklist c.in-Ok.kept c.args.tidy p.0 p.1.0 p.1.1.0 p.1.1.1.0 p.1.1.1.1.0 p.1.1.1.1.1
    c.well_formed-in-Ok.ensures.live c.in-Ok.ensures.net c.requires.tidy
