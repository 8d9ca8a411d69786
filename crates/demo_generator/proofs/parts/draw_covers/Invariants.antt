use Rattle.std.proofs.Common.{◌≡◌, ◌*◌}
use Rattle.demo_generator.specs.Draws.{after}
use Rattle.demo_generator.specs.Generator.{covers_from}
use Rattle.demo_generator.proofs.parts.draw_covers.Given as goal

abbrev pub invariant-loop-number : goal.invariant-loop-number
invariant-loop-number l = record {
  covers : l.covers ≡ covers_from l.number 0 l.initial.draws.state;
  state : l.draws.state ≡ after (9 * l.number) l.initial.draws.state;
}
