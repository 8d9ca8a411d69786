use Rattle.std.proofs.Common.{map, take, ◌≡◌}
use Rattle.fault_sim.specs.Words.{lane}
use Rattle.care_opt.proofs.vectors.vector_in.Given as goal

abbrev pub invariant-loop-word : goal.invariant-loop-word
invariant-loop-word l = l.values.items ≡ map (lane l.lane) (take l.word-index l.words)
