use Rattle.std.proofs.Common.{sym, refl, subst}
use Rattle.std.specs.Prelude.{OnOk}
use Rattle.wire_edit.specs.declared.steps.Step.{Step}
use Rattle.wire_edit.specs.declared.steps.Step.TheVariants.{Add, Fix, Const, Same, Dead}
use Rattle.changed_nodes.specs.Changing.{HasNoted}
use Rattle.changed_nodes.proofs.Noting.{empty_noted, gate_noted, not_noted, on_ok, one_noted, same_noted, second_noted, twin_noted}
use Rattle.changed_nodes.proofs.changes.Changed.note.Goals as goal

pub returns-in-Add : goal.returns-in-Add
returns-in-Add c =
    subst (λ (s : Step). OnOk c.note_gate.result (HasNoted s c.args.graph.now c.args.self.now c.note_gate.new.self)) (sym c.in-Add.is)
    (on_ok c.note_gate.result _ _ (λ listed. gate_noted c.args.graph.now (Add c.in-Add.gate c.in-Add.node) c.in-Add.gate.0 c.args.self.now c.note_gate.new.self (λ net gates new_drivers covers. covers) listed c.note_gate.ensures.new_drivers) c.note_gate.ensures.gates)

pub returns-in-Fix : goal.returns-in-Fix
returns-in-Fix c =
    subst (λ (s : Step). OnOk c.note_gate-in-Fix.result (HasNoted s c.args.graph.now c.args.self.now c.note_gate-in-Fix.new.self)) (sym c.in-Fix.is)
    (on_ok c.note_gate-in-Fix.result _ _ (λ listed. gate_noted c.args.graph.now (Fix c.in-Fix.gate c.in-Fix.position c.in-Fix.value) c.in-Fix.gate.0 c.args.self.now c.note_gate-in-Fix.new.self (λ net gates new_drivers covers. covers) listed c.note_gate-in-Fix.ensures.new_drivers) c.note_gate-in-Fix.ensures.gates)

pub returns-in-Const : goal.returns-in-Const
returns-in-Const c =
    subst (λ (s : Step). OnOk c.note_constant.result (HasNoted s c.args.graph.now c.args.self.now c.note_constant.new.self)) (sym c.in-Const.is) c.note_constant.ensures

pub returns-in-Same : goal.returns-in-Same
returns-in-Same c =
    subst (λ (s : Step). OnOk c.note_gate-in-Same.result (HasNoted s c.args.graph.now c.args.self.now c.note_gate-in-Same.new.self)) (sym c.in-Same.is)
    (on_ok c.note_gate-in-Same.result _ _ (λ listed. same_noted c.args.graph.now c.in-Same.gate c.in-Same.position c.args.self.now c.note_gate-in-Same.new.self listed c.note_gate-in-Same.ensures.new_drivers) c.note_gate-in-Same.ensures.gates)

pub returns-in-Dead : goal.returns-in-Dead
returns-in-Dead c =
    subst (λ (s : Step). OnOk c.note_gate-in-Dead.result (HasNoted s c.args.graph.now c.args.self.now c.note_gate-in-Dead.new.self)) (sym c.in-Dead.is)
    (on_ok c.note_gate-in-Dead.result _ _ (λ listed. gate_noted c.args.graph.now (Dead c.in-Dead.gate) c.in-Dead.gate.0 c.args.self.now c.note_gate-in-Dead.new.self (λ net gates new_drivers covers. covers) listed c.note_gate-in-Dead.ensures.new_drivers) c.note_gate-in-Dead.ensures.gates)

pub returns-in-NewNot : goal.returns-in-NewNot
returns-in-NewNot c = subst (λ (s : Step). HasNoted s c.args.graph.now c.args.self.now c.args.self.now) (sym c.in-NewNot.is) (not_noted c.args.graph.now c.in-NewNot.node c.args.self.now)

pub returns-in-NoPins : goal.returns-in-NoPins
returns-in-NoPins c = subst (λ (s : Step). HasNoted s c.args.graph.now c.args.self.now c.args.self.now) (sym c.in-NoPins.is) (empty_noted c.args.graph.now c.in-NoPins.gate c.args.self.now)

pub returns-in-OnePin : goal.returns-in-OnePin
returns-in-OnePin c =
    subst (λ (s : Step). OnOk c.note_new_driver.result (HasNoted s c.args.graph.now c.args.self.now c.note_new_driver.new.self)) (sym c.in-OnePin.is)
    (on_ok c.note_new_driver.result _ _ (λ new_driver. one_noted c.args.graph.now c.in-OnePin.gate c.driver.result c.args.self.now c.note_new_driver.new.self c.driver.ensures c.note_new_driver.ensures.gates new_driver c.note_new_driver.ensures.none) c.note_new_driver.ensures.new_driver)

pub returns-in-Twice : goal.returns-in-Twice
returns-in-Twice c =
    subst (λ (s : Step). OnOk c.note_new_driver-in-Twice.result (HasNoted s c.args.graph.now c.args.self.now c.note_new_driver-in-Twice.new.self)) (sym c.in-Twice.is)
    (on_ok c.note_new_driver-in-Twice.result _ _ (λ new_driver. second_noted c.args.graph.now c.in-Twice.gate c.second_driver.result c.args.self.now c.note_new_driver-in-Twice.new.self c.second_driver.ensures c.note_new_driver-in-Twice.ensures.gates new_driver c.note_new_driver-in-Twice.ensures.none) c.note_new_driver-in-Twice.ensures.new_driver)

pub returns-in-Twin : goal.returns-in-Twin
returns-in-Twin c =
    subst (λ (s : Step). OnOk c.note_new_driver-in-Twin.result (HasNoted s c.args.graph.now c.args.self.now c.note_new_driver-in-Twin.new.self)) (sym c.in-Twin.is)
    (on_ok c.note_new_driver-in-Twin.result _ _ (λ new_driver. twin_noted c.args.graph.now c.in-Twin.gate c.in-Twin.other c.args.self.now c.note_new_driver-in-Twin.new.self (new_driver c.in-Twin.other refl) c.note_new_driver-in-Twin.ensures.gates) c.note_new_driver-in-Twin.ensures.new_driver)
