use Rattle.std.proofs.Common.{refl}
use Rattle.demo_generator.specs.Draws.{after, drawn}
use Rattle.demo_generator.specs.Generator.{signal}
use Rattle.demo_generator.proofs.Steps.{drawn_one, state_more}
use Rattle.demo_generator.proofs.parts.draw_inputs.Goals as goal

pub loop-pin-init : goal.loop-pin-init
unfolding after drawn
loop-pin-init c = record { inputs = c.new-inputs.ensures; state = refl }

pub loop-pin-preserved : goal.loop-pin-preserved
loop-pin-preserved c = record {
  inputs = drawn_one signal c.loop-pin._pin c.args.below c.args.draws.now.state c.loop-pin.draws.state c.draw.new.self.state c.draw.result c.in_ok-signal_name.field-0 c.loop-pin.inputs c.push.new.self
      c.loop-pin.invariant.state c.draw.ensures.state c.draw.ensures.answer c.in_ok-signal_name.ensures c.loop-pin.invariant.inputs c.in_ok-push.ensures.ok;
  state = state_more signal c.loop-pin._pin c.args.below c.args.draws.now.state c.loop-pin.draws.state c.draw.new.self.state c.loop-pin.invariant.state c.draw.ensures.state;
}
