use Rattle.merging.specs.Inner.Going.{Follows, Goes}
use Rattle.merging.proofs.fixing.fix_others.Given as goal

abbrev pub invariant-loop-position : goal.invariant-loop-position
invariant-loop-position l = record {
  follows : Follows l.initial.space l.space;
  goes : Goes 0 0 l.initial.space.trial l.space.trial l.initial.log.items l.log.items;
}
