use Rattle.std.proofs.Common.{get_or, ◌++◌, map}
use Rattle.blif_flatten.specs.CallFaults.{pin_use}
use Rattle.blif_flatten.specs.Inner.Interfaces.{no_token, pins_at}
use Rattle.blif_flatten.specs.Inner.Uses.{uses_at}
use Rattle.blif_flatten.proofs.Formals.{mapped-go, token-at}
use Rattle.blif_flatten.proofs.uses.push_pins.Goals as goal

pub loop-pin-preserved : goal.loop-pin-preserved
loop-pin-preserved c = λ m i.
    mapped-go c.args.text.now c.args.pins.now c.loop-pin.pin-index (get_or c.args.pins.now c.loop-pin.pin-index no_token) (token-at c.args.pins.now c.loop-pin.pin-index no_token c.loop-pin-test.true) (pin_use m) (uses_at c.loop-pin.uses.items) (uses_at c.push_pin.new.uses.items) (uses_at c.args.uses.now.items ++ map (pin_use m) (pins_at c.args.text.now c.args.pins.now)) (c.loop-pin.invariant m i) (c.in_ok-push_pin.ensures m i)
