use Rattle.std.proofs.Common.{refl}
use Rattle.demo_generator.specs.Draws.{after, drawn}
use Rattle.demo_generator.specs.Generator.{literal}
use Rattle.demo_generator.proofs.Steps.{drawn_one, state_more}
use Rattle.demo_generator.proofs.parts.draw_row.Goals as goal

pub loop-pin-init : goal.loop-pin-init
unfolding after drawn
loop-pin-init c = record { row = c.new-row.ensures; state = refl }

pub loop-pin-preserved : goal.loop-pin-preserved
loop-pin-preserved c = record {
  row = drawn_one literal c.loop-pin._pin 3 c.args.draws.now.state c.loop-pin.draws.state c.draw.new.self.state c.draw.result c.literal.result c.loop-pin.row c.push.new.self
      c.loop-pin.invariant.state c.draw.ensures.state c.draw.ensures.answer c.literal.ensures c.loop-pin.invariant.row c.in_ok-push.ensures.ok;
  state = state_more literal c.loop-pin._pin 3 c.args.draws.now.state c.loop-pin.draws.state c.draw.new.self.state c.loop-pin.invariant.state c.draw.ensures.state;
}
