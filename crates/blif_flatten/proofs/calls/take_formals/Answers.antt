use Rattle.std.proofs.Common.{get_or}
use Rattle.blif_flatten.specs.Inner.Interfaces.{no_token}
use Rattle.blif_flatten.proofs.Formals.{formals-refused, formals-go, formals-whole, token-at}
use Rattle.blif_flatten.proofs.calls.take_formals.Goals as goal

pub returns-in-Err-clause-err : goal.returns-in-Err-clause-err
returns-in-Err-clause-err c = λ m i.
    formals-refused c.args.text.now c.args.pins.now c.loop-pin.pin-index (get_or c.args.pins.now c.loop-pin.pin-index no_token) (token-at c.args.pins.now c.loop-pin.pin-index no_token c.loop-pin-test.true) m c.loop-pin.given c.in-Err.refusal (c.loop-pin.invariant m i).0 (c.in-Err.ensures.err m i)

pub loop-pin-preserved : goal.loop-pin-preserved
loop-pin-preserved c = λ m i.
    formals-go c.args.text.now c.args.pins.now c.loop-pin.pin-index (get_or c.args.pins.now c.loop-pin.pin-index no_token) (token-at c.args.pins.now c.loop-pin.pin-index no_token c.loop-pin-test.true) m c.loop-pin.given c.take_formal.new.given (c.loop-pin.invariant m i).0 (c.loop-pin.invariant m i).1 (c.in-Ok.ensures.ok m i)

pub returns-clause-given : goal.returns-clause-given
returns-clause-given c = λ m i. formals-whole c.args.text.now c.args.pins.now c.loop-pin.pin-index c.loop-pin.given (c.loop-pin.invariant m i).1 c.loop-pin-test.false
