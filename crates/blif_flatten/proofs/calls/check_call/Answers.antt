use Rattle.std.proofs.Common.{◌≡◌, sym, subst, Option, None, List, get_or}
use Rattle.std.specs.Prelude.{OnOk, IfErr}
use Rattle.blif_lines.specs.declared.line.Token.{Token}
use Rattle.blif_format.specs.declared.refusal.ReadRefusal.{ReadRefusal}
use Rattle.blif_reader.specs.Meant.{IsRefusal}
use Rattle.blif_flatten.specs.Inner.Interfaces.{call_at, no_token, pins_at, pins_fault_in}
use Rattle.blif_flatten.proofs.Formals.{call-is, rest-of}
use Rattle.blif_flatten.proofs.calls.check_call.Goals as goal

pub returns-in-Some-clause-ok : goal.returns-in-Some-clause-ok
returns-in-Some-clause-ok c = λ modules known.
    let n = c.in-Some.ensures.some modules known in
    subst (λ (o : Option ReadRefusal). OnOk c.check_pins.result (o ≡ None)) (sym (call-is modules c.args.text.now c.args.line.now (call_at c.args.text.now c.args.line.now) c.in-Some.interface.now (c.is_call.ensures.call c.if-not-is_call.false) n))
    (subst (λ (ts : List Token). OnOk c.check_pins.result (pins_fault_in n.callee.model (get_or c.args.line.now 0 no_token).place (pins_at c.args.text.now ts) ≡ None)) (rest-of c.args.line.now) (c.check_pins.ensures.ok n.callee.model n.interface))

pub returns-in-Some-clause-err : goal.returns-in-Some-clause-err
returns-in-Some-clause-err c = λ modules known.
    let n = c.in-Some.ensures.some modules known in
    subst (λ (o : Option ReadRefusal). IfErr c.check_pins.result (λ e. IsRefusal e o)) (sym (call-is modules c.args.text.now c.args.line.now (call_at c.args.text.now c.args.line.now) c.in-Some.interface.now (c.is_call.ensures.call c.if-not-is_call.false) n))
    (subst (λ (ts : List Token). IfErr c.check_pins.result (λ e. IsRefusal e (pins_fault_in n.callee.model (get_or c.args.line.now 0 no_token).place (pins_at c.args.text.now ts)))) (rest-of c.args.line.now) (c.check_pins.ensures.err n.callee.model n.interface))
