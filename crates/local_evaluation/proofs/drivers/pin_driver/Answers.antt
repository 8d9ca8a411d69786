use Rattle.gate_graph.specs.Circuit.{net_of}
use Rattle.local_evaluation.proofs.Told.{driver_within}
use Rattle.local_evaluation.proofs.drivers.pin_driver.Goals as goal

pub returns-clause-within : goal.returns-clause-within
returns-clause-within c = driver_within (net_of c.args.graph.now) c.well_formed-2.ensures.net c.args.gate.0 c.args.position c.driver.result c.driver.ensures
