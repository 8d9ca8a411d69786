use Rattle.std.proofs.Common.{Some, ap, arith, ◌-◌, ◌<◌, ◌∙◌}
use Rattle.std.proofs.lemmas.Bool.{ltb-true}
use Rattle.implications.proofs.Counted.{equal_some, equal_told, equal_two, equal_unsure}
use Rattle.implications.proofs.counts.equal_pulls_nothing.Goals as goal

pub returns-in-None : goal.returns-in-None
returns-in-None c e os h = equal_unsure c.args.count os c.args.known h c.in-None.is (ltb-true c.args.count.passing c.args.count.pins e)

pub returns-then-value : goal.returns-then-value
returns-then-value c e os h = equal_told os c.args.known (c.in-Some.is ∙ ap Some c.if-value.true)

pub returns-then-count-gt0 : goal.returns-then-count-gt0
returns-then-count-gt0 c e os h = equal_some c.args.count os c.args.known h c.if-count-gt0.true

pub returns-else-count-gt0 : goal.returns-else-count-gt0
returns-else-count-gt0 c e os h =
    let more : 1 < c.saturating_sub.result = ltb-true 1 c.saturating_sub.result e in
    let two : 1 < c.args.count.pins - c.args.count.passing = omega (arith, c.saturating_sub.ensures) in
    equal_two c.args.count os c.args.known h two
