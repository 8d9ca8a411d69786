use Rattle.std.proofs.Common.{◌+◌, ◌-◌, ◌*◌}
use Rattle.gate_net.specs.Net.{Net}
use Rattle.gate_graph.specs.Circuit.{net_of}
use Rattle.wire_edit.specs.Work.{work}
use Rattle.wire_edit.specs.Tidying.{TidiesTo}
use Rattle.step_replay.proofs.tidying.tidy.Given as goal

-- what the order leads to from here, it leads to from the beginning
abbrev pub invariant-loop-step : goal.invariant-loop-step
invariant-loop-step l = (last : Net) → TidiesTo (net_of l.trial.graph) last → TidiesTo (net_of l.initial.trial.graph) last

-- a step lowers the work, and room is given once before the next
abbrev pub decreases-loop-step : goal.decreases-loop-step
decreases-loop-step l = 2 * work (net_of l.trial.graph) + (1 - l.trial.room.steps)
