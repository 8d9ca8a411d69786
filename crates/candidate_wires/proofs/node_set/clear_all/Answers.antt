use Rattle.std.proofs.Common.{arith}
use Rattle.candidate_wires.proofs.StampLists.{all_none}
use Rattle.candidate_wires.proofs.node_set.clear_all.Goals as goal

pub returns-clause-none : goal.returns-clause-none
returns-clause-none c x = all_none c.loop-place.stamps.items (λ k low. c.loop-place.invariant.none k (omega (arith, low, c.loop-place-test.false, c.len-place-end.ensures, c.args.stamps.now.ok.0, c.loop-place.invariant.size))) x
