use Rattle.std.proofs.Common.{map}
use Rattle.rm_base.specs.declared.numbers.NodeId.{NodeId}
use Rattle.ternary_sim.proofs.InOrder.{walk_from}
use Rattle.gate_graph.specs.Circuit.{net_of}
use Rattle.ternary_sim.proofs.Loops.{finished}
use Rattle.ternary_sim.specs.Marks.{known_source, marking}
use Rattle.ternary_sim.proofs.simulator.Sim.run_fault.Goals as goal

pub returns-clause-reading : goal.returns-clause-reading
returns-clause-reading c =
    finished (net_of c.args.question.now.graph.now) c.args.question.now.fault c.self.inside.order.items c.as_slice-2.result.now c.self.inside.sources.items c.as_slice.result.now c.read_all.new.marks.items
    c.as_slice-2.ensures.value c.as_slice.ensures.value c.args.question.now.pin (walk_from (net_of c.args.question.now.graph.now) (map (λ (n : NodeId). n.0) c.self.inside.order.items) c.well_formed-2.ensures.net (rw (← c.self.view_is) at c.requires.fits).order) c.read_all.ensures.read c.read_all.ensures.marks

pub returns-clause-sound : goal.returns-clause-sound
returns-clause-sound c a v f completes run x =
    c.readings_hold.ensures (net_of c.args.question.now.graph.now) c.args.question.now.fault c.well_formed-2.ensures.net.acyclic (known_source c.self.inside.sources.items) (marking c.read_all.new.marks.items) (returns-clause-reading c) a v f completes run x
