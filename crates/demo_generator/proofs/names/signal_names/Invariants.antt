use Rattle.std.proofs.Common.{◌≡◌, ◌-◌, map}
use Rattle.demo_generator.specs.Generator.{numbers_from, signal}
use Rattle.demo_generator.proofs.names.signal_names.Given as goal

abbrev pub invariant-loop-number : goal.invariant-loop-number
invariant-loop-number l = l.names ≡ map signal (numbers_from l.fn.first (l.number - l.fn.first))
