use Rattle.std.proofs.Common.{◌≡◌, map}
use Rattle.demo_generator.specs.Draws.{after, drawn}
use Rattle.demo_generator.specs.Generator.{literal}
use Rattle.demo_generator.proofs.parts.draw_row.Given as goal

abbrev pub invariant-loop-pin : goal.invariant-loop-pin
invariant-loop-pin l = record {
  row : l.row ≡ map literal (drawn l._pin 3 l.initial.draws.state);
  state : l.draws.state ≡ after l._pin l.initial.draws.state;
}
