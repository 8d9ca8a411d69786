use Rattle.changed_nodes.proofs.Noting.{const_noted, on_ok}
use Rattle.changed_nodes.proofs.changes.Changed.note_constant.Goals as goal

pub returns : goal.returns
returns c =
    on_ok c.note_new_driver.result _ _
    (λ new_driver. const_noted c.args.graph.now c.args.gate c.args.position c.passed_driver.result c.args.self.now c.note_gate.new.self c.note_new_driver.new.self c.passed_driver.ensures
    c.in_ok-note_gate.ensures.gates c.note_gate.ensures.new_drivers c.note_new_driver.ensures.gates new_driver c.note_new_driver.ensures.none)
    c.note_new_driver.ensures.new_driver
