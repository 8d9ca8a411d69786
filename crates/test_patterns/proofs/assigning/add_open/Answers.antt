use Rattle.std.proofs.Common.{arith}
use Rattle.gate_graph.specs.Circuit.{net_of}
use Rattle.test_patterns.proofs.Assigned.{none_open_fewer, none_open_next, tests_of}
use Rattle.test_patterns.proofs.assigning.add_open.Goals as goal

pub loop-at-preserved : goal.loop-at-preserved
loop-at-preserved c =
    let x = c.in_ok-add_if_open.ensures.closed in
    let old = c.loop-at.set.firsts.items in
    let new = c.add_if_open.new.set.firsts.items in (
      x.draft,
      (
        c.in_ok-add_if_open.ensures.fits,
        none_open_next c.args.known.now.numbers.now new c.loop-at.at (none_open_fewer c.args.known.now.numbers.now old new c.loop-at.at x.fewer c.loop-at.invariant.1.1) x.closed,
      ),
    )

pub returns : goal.returns
returns c = record { tests = tests_of (net_of c.args.known.now.graph.now) c.args.known.now.faults.now c.args.known.now.vectors.now c.args.known.now.numbers.now c.loop-at.set.patterns.items c.loop-at.set.firsts.items c.loop-at.invariant.0 (λ j lt. c.loop-at.invariant.1.1 j (omega (arith, lt, c.loop-at-test.false))) }
