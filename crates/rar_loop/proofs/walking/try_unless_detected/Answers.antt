use Rattle.std.proofs.Common.{ℕ, subst}
use Rattle.gate_graph.specs.Circuit.{Circuit, net_of}
use Rattle.rar_loop.specs.Inner.Trying.{MayAdd, IsNewPinOpen}
use Rattle.rar_loop.proofs.Opens.{open_pin_fails}
use Rattle.rar_loop.proofs.Pairing.{back_none}
use Rattle.rar_loop.proofs.walking.try_unless_detected.Goals as goal

pub returns-then-detect_wire-clause-try_outcome : goal.returns-then-detect_wire-clause-try_outcome
returns-then-detect_wire-clause-try_outcome c =
    let t = c.args.space.now.trial in
    let e = subst (λ (v : Circuit). MayAdd (net_of v) c.args.pair.now.candidate → (depth : ℕ) → IsNewPinOpen (net_of v) c.args.pair.now.candidate depth) c.graph-graph.ensures (c.detect_wire.ensures.stays c.if-detect_wire.true) in
    (back_none t c.requires.ready.lent, open_pin_fails c.closed_has_all.ensures (net_of t.graph) c.args.pair.now c.args.depth (e c.requires.pair.wire c.args.depth))
