use Rattle.std.proofs.Common.{◌∙◌, sym}
use Rattle.net_tests.proofs.pools.input.Goals as goal
use Rattle.pin_pool.proofs.Public.{has-there}
use Rattle.rm_base.proofs.Public.{first_of_drop}

pub returns-in-Some-clause-there : goal.returns-in-Some-clause-there
returns-in-Some-clause-there c = first_of_drop _ _ c.args.position c.in-Some.pin.0 (sym c.inputs_from-pins.ensures.list ∙ c.in-Some.ensures.steps)

pub returns-in-Some-clause-linked : goal.returns-in-Some-clause-linked
returns-in-Some-clause-linked c =
    (c.args.gate, has-there _ c.args.position c.in-Some.pin.0 (first_of_drop _ _ c.args.position c.in-Some.pin.0 (sym c.inputs_from-pins.ensures.list ∙ c.in-Some.ensures.steps)))
