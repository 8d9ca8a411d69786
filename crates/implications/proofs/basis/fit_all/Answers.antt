use Rattle.std.proofs.Common.{arith, length, ◌≡◌}
use Rattle.gate_graph.specs.Circuit.{net_of}
use Rattle.implications.proofs.Bases.{fits_pinless}
use Rattle.implications.proofs.basis.fit_all.Goals as goal

pub returns-clause-pinless : goal.returns-clause-pinless
returns-clause-pinless c =
    let end : c.loop-number.number ≡ length (net_of c.args.graph.now).nodes = omega (arith, c.loop-number-test.false, c.node_bound-number-end.ensures, c.loop-number.auto.number-end) in
    fits_pinless (net_of c.args.graph.now) c.loop-number.number c.loop-number.facts c.loop-number.pinless.items end c.loop-number.invariant.fits
