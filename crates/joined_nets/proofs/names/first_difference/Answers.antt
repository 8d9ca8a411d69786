use Rattle.std.proofs.Common.{rules}
use Rattle.joined_nets.proofs.Differing.{one_ended}
use Rattle.joined_nets.proofs.names.first_difference.Goals as goal

pub returns-then-ys-xs : goal.returns-then-ys-xs
returns-then-ys-xs c = one_ended c.args.xs.now c.args.ys.now c.loop-x.at (search rules) (search rules) c.loop-x.invariant.1.1
