use Rattle.std.proofs.Common.{sym, arith}
use Rattle.test_patterns.proofs.Lanes.{lane_assigned}
use Rattle.test_patterns.proofs.groups.is_in_lane.Goals as goal

pub returns : goal.returns
returns c = λ t. record {
  size = sym c.if-words-vector.false;
  same = lane_assigned c.args.words.now c.args.lane c.args.vector.now (sym c.if-words-vector.false) (λ k lt. c.loop-at.invariant k (omega (arith, lt, c.loop-at-test.false)));
}
