use Rattle.std.proofs.Common.{refl, arith}
use Rattle.closing_pass.proofs.trying.first_lane.Goals as goal

pub returns-in_default-clause-none : goal.returns-in_default-clause-none
returns-in_default-clause-none c = λ none i lt d. c.in_default.ensures.none refl i (omega (arith, lt, c.requires.few)) d

pub returns-else-lane-count-clause-none : goal.returns-else-lane-count-clause-none
returns-else-lane-count-clause-none c = λ none i lt d. c.in-Some.ensures.before i (omega (arith, lt, c.if-lane-count.false)) d
