use Rattle.std.proofs.Common.{length, ◌≡◌}
use Rattle.ternary_sim.proofs.region.mark_all.Given as goal
use Rattle.ternary_sim.specs.Regions.{MarksMore}
use Rattle.rm_base.specs.Members.{AmongFirst}

abbrev pub invariant-loop-number : goal.invariant-loop-number
invariant-loop-number l = record {
  marks : MarksMore (AmongFirst l.numbers l.number-index) l.initial.marks l.marks l.initial.waiting l.waiting;
  size : length l.marks ≡ length l.initial.marks;
  room : length l.waiting ≡ length l.initial.waiting;
}
