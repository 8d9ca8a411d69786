use Rattle.std.proofs.Common.{take, ◌++◌, ◌≡◌}
use Rattle.std.specs.Prelude.{filter, if◌then◌else◌, not}
use Rattle.rm_base.specs.declared.numbers.Fault.{Fault}
use Rattle.candidate_wires.specs.Pairs.{is_before}
use Rattle.candidate_wires.proofs.targeting.push_part.Given as goal

abbrev pub invariant-loop-fault : goal.invariant-loop-fault
invariant-loop-fault l = l.turn.items ≡ l.initial.turn.items ++ filter (λ (fault : Fault). if l.early then is_before l.start fault else not (is_before l.start fault)) (take l.fault-index l.all)
