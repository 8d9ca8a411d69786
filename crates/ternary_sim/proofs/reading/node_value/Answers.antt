use Rattle.std.proofs.Common.{map, ◌∙◌}
use Rattle.gate_graph.specs.Circuit.{net_of}
use Rattle.local_evaluation.specs.Pins.{with_stuck}
use Rattle.local_evaluation.proofs.Public.{kind_is}
use Rattle.ternary_sim.proofs.Loops.{own_forward}
use Rattle.ternary_sim.proofs.reading.node_value.Goals as goal
use Rattle.ternary_sim.specs.Marks.{known_source}
use Rattle.ternary_sim.specs.Inner.Marks.{known_in}

pub source_value-own-requires-clause-kind : goal.source_value-own-requires-clause-kind
source_value-own-requires-clause-kind c = kind_is (net_of c.args.graph.now) c.args.node.0 c.in_ok-kind.kind c.in_ok-kind.ensures

pub returns : goal.returns
returns c =
    rw c.gate_pins.ensures.drivers at (c.value_from.ensures
    ∙ own_forward (net_of c.args.graph.now) c.args.node.0 c.in_ok-kind.kind c.source_value-own.result (known_source c.args.sources.now c.args.node.0) (with_stuck c.args.stuck (map (known_in c.args.reading c.args.marks.now) c.gate_pins.result)) (kind_is (net_of c.args.graph.now) c.args.node.0 c.in_ok-kind.kind c.in_ok-kind.ensures) c.source_value-own.ensures)
