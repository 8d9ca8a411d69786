use Rattle.fault_sim.proofs.Noting.{set_noted}
use Rattle.fault_sim.proofs.observabilities.Observabilities.note.Goals as goal

pub returns : goal.returns
returns c = rw (← c.self.view_is) (set_noted c.self.inside.stamp c.self.inside.notes.items c.args.node.0 c.args.word)
