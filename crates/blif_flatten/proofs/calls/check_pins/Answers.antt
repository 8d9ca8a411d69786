use Rattle.std.proofs.Common.{◌∙◌, sym}
use Rattle.blif_flatten.specs.Inner.Interfaces.{pins_at}
use Rattle.blif_flatten.proofs.Refusals.{told}
use Rattle.blif_flatten.proofs.Formals.{pins-missing, pins-whole}
use Rattle.blif_flatten.proofs.calls.check_pins.Goals as goal

pub returns-then-not-gives_inputs-clause-err : goal.returns-then-not-gives_inputs-clause-err
returns-then-not-gives_inputs-clause-err c = λ m i.
    told c.fault.result _ _ c.fault.ensures (pins-missing m c.args.first.now.place (pins_at c.args.text.now c.args.pins.now) c.in-Ok.given (c.in-Ok.ensures.ok m i) (c.in-Ok.ensures.given m i) (sym (c.gives_inputs.ensures m i) ∙ c.if-not-gives_inputs.true))

pub returns-clause-ok : goal.returns-clause-ok
returns-clause-ok c = λ m i.
    pins-whole m c.args.first.now.place (pins_at c.args.text.now c.args.pins.now) c.in-Ok.given (c.in-Ok.ensures.ok m i) (c.in-Ok.ensures.given m i) (sym (c.gives_inputs.ensures m i) ∙ c.if-not-gives_inputs.false)
