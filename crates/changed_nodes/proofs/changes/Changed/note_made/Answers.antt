use Rattle.changed_nodes.proofs.Noting.{notes_made, on_ok}
use Rattle.changed_nodes.proofs.changes.Changed.note_made.Goals as goal

pub returns : goal.returns
returns c = on_ok c.note_gate.result _ _ (λ listed net after differs. notes_made net after c.args.gate.0 c.args.self.now c.note_gate.new.self listed c.note_gate.ensures.new_drivers differs) c.note_gate.ensures.gates
