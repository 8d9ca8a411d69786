use Rattle.std.proofs.Common.{◌≡◌, map}
use Rattle.demo_generator.specs.Draws.{after, drawn}
use Rattle.demo_generator.specs.Generator.{signal}
use Rattle.demo_generator.proofs.parts.draw_inputs.Given as goal

abbrev pub invariant-loop-pin : goal.invariant-loop-pin
invariant-loop-pin l = record {
  inputs : l.inputs ≡ map signal (drawn l._pin l.below l.initial.draws.state);
  state : l.draws.state ≡ after l._pin l.initial.draws.state;
}
