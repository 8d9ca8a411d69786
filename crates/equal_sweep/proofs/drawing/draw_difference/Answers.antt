use Rattle.gate_graph.specs.Circuit.{net_of}
use Rattle.equal_sweep.proofs.Telling.{pin_there, told}
use Rattle.equal_sweep.proofs.drawing.draw_difference.Goals as goal

pub drawn_test_of-requires : goal.drawn_test_of-requires
drawn_test_of-requires c = record { pin = pin_there c.args.a.now c.args.b.now (net_of c.in_ok-graph.graph) c.in_ok-graph.fault c.in_ok-graph.ensures.net c.in_ok-graph.ensures.fault }

pub returns-clause-apart : goal.returns-clause-apart
returns-clause-apart c =
    told c.miters_tell_models.ensures.apart c.miters_tell_models.ensures.not_both c.args.a.now c.args.b.now (net_of c.in_ok-graph.graph) c.in_ok-graph.fault c.in_ok-graph.ensures.net c.in_ok-graph.ensures.fault
    c.in_ok-graph.ensures.comparable c.well_formed-2.ensures.net.acyclic c.in_ok-found.found c.in_ok-found.ensures
