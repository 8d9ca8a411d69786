use Rattle.std.proofs.Common.{◌≡◌, None, replicate}
use Rattle.cover_sharing.proofs.standing.no_stands.Given as goal

abbrev pub invariant-loop : goal.invariant-loop
invariant-loop l = l.stands.items ≡ replicate l.counter None
