use Rattle.std.proofs.Common.{arith, ◌/◌, ◌<◌, ◌^◌}
use Rattle.fault_sim.proofs.PendingBits.{no_bit, one_bit}
use Rattle.fault_sim.proofs.pending.first_bit.Goals as goal

pub returns-then-rest-eq0 : goal.returns-then-rest-eq0
returns-then-rest-eq0 c = no_bit c.args.word c.args.from c.if-rest-eq0.true

pub returns : goal.returns
returns c =
    let fits : c.args.word < 2 ^ 64 = omega (arith, c.ranges.word.fits) in
    let some : 0 < c.args.word / 2 ^ c.args.from = omega arith in
    one_bit c.args.word c.args.from fits some
