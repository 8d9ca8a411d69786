use Rattle.std.proofs.Common.{◌≡◌, ◌++◌, map, drop}
use Rattle.window_cut.specs.Windows.{new_names}
use Rattle.window_cut.proofs.window_inputs.push_new.Given as goal

abbrev pub invariant-loop-name : goal.invariant-loop-name
invariant-loop-name l = (l.known ++ new_names l.known (drop l.name-index l.names) ≡ l.initial.known ++ new_names l.initial.known l.names) × (map (λ x. x.now) l.out.items ++ new_names l.known (drop l.name-index l.names) ≡ map (λ x. x.now) l.initial.out.items ++ new_names l.initial.known l.names)
