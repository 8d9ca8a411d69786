use Rattle.std.proofs.Common.{sym, ◌∙◌}
use Rattle.fault_sim.proofs.Blocking.{grown_same}
use Rattle.fault_sim.proofs.blocks.lengthen.Goals as goal

pub returns-then-numbers-before-clause-grown : goal.returns-then-numbers-before-clause-grown
returns-then-numbers-before-clause-grown c = grown_same c.args.numbers c.args.blocks.now.items (λ b block at. c.requires.blocks b block at ∙ sym c.if-numbers-before.true)
