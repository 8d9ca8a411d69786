use Rattle.implications.proofs.Rising.{rises_at_pin, tally_more}
use Rattle.implications.proofs.tallies.with_driver.Goals as goal
use Rattle.refutation.specs.FactSets.{held_by}

pub raise_tally-requires : goal.raise_tally-requires
raise_tally-requires c = rw c.rise_at.ensures (rises_at_pin (held_by c.args.facts.now) c.args.position c.args.driver.0 c.requires.counted.0 c.args.tally c.driver_at-at.result c.requires.counted.1)

pub returns : goal.returns
returns c = λ ds h. tally_more (held_by c.args.facts.now) c.args.position ds c.args.driver c.args.tally c.driver_at-at.result c.raise_tally.result h c.driver_at-at.ensures.here c.driver_at-at.ensures.elsewhere (rw c.rise_at.ensures at c.raise_tally.ensures)
