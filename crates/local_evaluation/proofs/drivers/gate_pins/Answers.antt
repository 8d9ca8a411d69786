use Rattle.std.proofs.Common.{◌≤◌, length, subst, ℕ, List}
use Rattle.gate_graph.specs.Circuit.{net_of}
use Rattle.local_evaluation.proofs.Told.{drivers_below, kind_live, live_is}
use Rattle.local_evaluation.proofs.drivers.gate_pins.Goals as goal

pub inputs_of-requires : goal.inputs_of-requires
inputs_of-requires c = live_is (net_of c.args.graph.now) c.args.node.0 c.requires

pub returns-clause-within : goal.returns-clause-within
returns-clause-within c = drivers_below (net_of c.args.graph.now) c.well_formed-2.ensures.net c.args.node.0

pub returns-clause-few : goal.returns-clause-few
returns-clause-few c = let P : List ℕ → Type 0 = λ ds. length ds ≤ 4294967295 in subst P c.inputs_of.ensures.drivers c.inputs_of.ensures.few

pub returns-clause-bound : goal.returns-clause-bound
returns-clause-bound c = kind_live (net_of c.args.graph.now) c.args.node.0 (live_is (net_of c.args.graph.now) c.args.node.0 c.requires)
