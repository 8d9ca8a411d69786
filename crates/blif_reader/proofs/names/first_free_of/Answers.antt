use Rattle.std.proofs.Common.{◌∙◌, sym, arith}
use Rattle.blif_reader.proofs.Free.{free_here, free_later}
use Rattle.blif_reader.proofs.names.first_free_of.Goals as goal

pub returns-in-Some : goal.returns-in-Some
returns-in-Some c = sym (c.loop-i.invariant.free ∙ free_here c.args.entries.now c.loop-i.i c.in-Some.place c.in-Some.ensures)

pub loop-i-preserved : goal.loop-i-preserved
loop-i-preserved c = record { within = omega (arith, c.loop-i-test.true, c.len.ensures); free = c.loop-i.invariant.free ∙ free_later c.args.entries.now c.loop-i.i c.in-None.ensures }
