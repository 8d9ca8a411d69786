use Rattle.std.proofs.Common.{◌≡◌, ◌++◌, replicate}
use Rattle.cover_decompose.specs.Inner.Plan.{counting}
use Rattle.cover_decompose.proofs.plan.first_numbers.Given as goal

abbrev pub invariant-loop-source : goal.invariant-loop-source
invariant-loop-source l = l.numbers.items ≡ counting 2 l.source

abbrev pub invariant-loop-cover : goal.invariant-loop-cover
invariant-loop-cover l = l.numbers.items ≡ counting 2 l.sources ++ replicate l._cover 0
