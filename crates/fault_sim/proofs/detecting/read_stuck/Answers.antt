use Rattle.gate_graph.specs.Circuit.{net_of}
use Rattle.fault_sim.proofs.Detection.{stuck_read}
use Rattle.fault_sim.proofs.detecting.read_stuck.Goals as goal

pub returns : goal.returns
returns c = stuck_read (net_of c.args.question.now.graph.now) c.args.question.now.fault c.args.words.now c.args.good.now c.args.spread.now c.requires.rested c.read_word.result (rw c.stuck_at.ensures at c.read_word.ensures)
