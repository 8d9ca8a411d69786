use Rattle.std.proofs.Common.{arith}
use Rattle.rar_loop.proofs.Filtering.{asked_less, asked_past}
use Rattle.rar_loop.proofs.vectors.forget.Goals as goal

pub loop-gate-preserved-then-number-len : goal.loop-gate-preserved-then-number-len
loop-gate-preserved-then-number-len c = record { listed = asked_less c.loop-gate.turned.items c.loop-gate.asked.items c.pop.new.self.items c.in-Some.gate c.in-Some.ensures.items c.loop-gate.invariant.listed }

pub loop-gate-preserved : goal.loop-gate-preserved
loop-gate-preserved c = record { listed = asked_past c.loop-gate.turned.items c.loop-gate.asked.items c.pop.new.self.items c.in-Some.gate c.in-Some.ensures.items (omega (arith, c.if-number-len.false, c.len.ensures)) c.loop-gate.invariant.listed }
