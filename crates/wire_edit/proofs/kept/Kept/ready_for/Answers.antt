use Rattle.gate_graph.specs.Circuit.{net_of}
use Rattle.wire_edit.proofs.KnownPins.{same_kept}
use Rattle.wire_edit.proofs.kept.Kept.ready_for.Goals as goal

pub returns-then-stays_apart-clause-kept : goal.returns-then-stays_apart-clause-kept
returns-then-stays_apart-clause-kept c =
    let e = c.stays_apart.ensures in
    let t = c.if-stays_apart.true in
    same_kept (net_of c.args.graph.now) c.args.self.now c.args.step c.in-Same.gate c.in-Same.position c.in-Same.is (e.gate t) (e.before t) (e.kind t) c.requires.applies c.requires.kept
