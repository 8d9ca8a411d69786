use Rattle.std.proofs.Common.{drop, length, ◌+◌, ◌≡◌, ◌≤◌}
use Rattle.std.specs.Option.{option_map}
use Rattle.joined_nets.specs.Ready.{first_difference}
use Rattle.joined_nets.proofs.names.first_difference.Given as goal

abbrev pub invariant-loop-x : goal.invariant-loop-x
invariant-loop-x l = (l.at ≡ l.x-index) × ((l.at ≤ length l.xs) × (first_difference l.xs l.ys ≡ option_map (λ j. l.at + j) (first_difference (drop l.at l.xs) (drop l.at l.ys))))
