use Rattle.std.proofs.Common.{◌≡◌, take, map}
use Rattle.window_cut.proofs.copies.copy_lent.Given as goal

abbrev pub invariant-loop-name : goal.invariant-loop-name
invariant-loop-name l = l.made.items ≡ map (λ n. n.now) (take l.name-index l.names)
