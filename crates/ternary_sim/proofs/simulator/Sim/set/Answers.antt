use Rattle.std.proofs.Common.{◌∙◌, length-set}
use Rattle.ternary_sim.proofs.simulator.Sim.set.Goals as goal

pub returns-clause-fits : goal.returns-clause-fits
returns-clause-fits c net fits =
    let before = rw (← c.self.view_is) at fits in
    record { sources = length-set c.self.inside.sources.items c.args.source.0 c.args.value ∙ before.sources; order = before.order }
