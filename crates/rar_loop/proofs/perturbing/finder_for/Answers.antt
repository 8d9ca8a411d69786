use Rattle.std.proofs.Common.{arith}
use Rattle.rar_loop.proofs.perturbing.finder_for.Goals as goal

pub overflow_add-live : goal.overflow_add-live
overflow_add-live c = omega (arith, c.well_formed-2.ensures.live, c.requires, c.source_count.ensures)

pub overflow_add-live-2 : goal.overflow_add-live-2
overflow_add-live-2 c = omega (arith, c.well_formed-2.ensures.live, c.requires, c.source_count.ensures, c.gate_count.ensures)
