use Rattle.std.proofs.Common.{refl}
use Rattle.demo_generator.specs.Draws.{after}
use Rattle.demo_generator.specs.Generator.{covers_from}
use Rattle.demo_generator.proofs.Steps.{covers_one, nine_more}
use Rattle.demo_generator.proofs.parts.draw_covers.Goals as goal

pub loop-number-init : goal.loop-number-init
unfolding after covers_from
loop-number-init c = record { covers = c.new-covers.ensures; state = refl }

pub loop-number-preserved : goal.loop-number-preserved
loop-number-preserved c = record {
  covers = covers_one c.loop-number.number c.args.seed c.loop-number.draws.state c.in_ok-draw_cover.field-0 c.loop-number.covers c.push.new.self
      c.loop-number.invariant.state c.in_ok-draw_cover.ensures.cover c.loop-number.invariant.covers c.in_ok-push.ensures.ok;
  state = nine_more c.loop-number.number c.args.seed c.loop-number.draws.state c.draw_cover.new.draws.state c.loop-number.invariant.state c.in_ok-draw_cover.ensures.state;
}
