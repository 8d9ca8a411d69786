use Rattle.std.proofs.Common.{Some, ap, arith, not, ◌-◌, ◌<◌, ◌∙◌, ◌≡◌}
use Rattle.std.proofs.lemmas.Bool.{eqb-true, ltb-true}
use Rattle.implications.proofs.Counted.{count_full, count_met, count_open, count_two}
use Rattle.implications.proofs.Pulling.{other_one}
use Rattle.implications.proofs.counts.pulls_nothing.Goals as goal
use Rattle.refutation.proofs.Public.{never_other}

pub returns-then-count-eq0 : goal.returns-then-count-eq0
returns-then-count-eq0 c e os h = count_open c.args.count c.args.c os c.args.known h c.in-None.is c.if-count-eq0.true (ltb-true c.args.count.passing c.args.count.pins e)

pub returns-then-count-eq0-2 : goal.returns-then-count-eq0-2
returns-then-count-eq0-2 c e os h =
    let is : c.args.known ≡ Some (not c.args.c) = c.in-Some.is ∙ ap Some (other_one c.in-Some.value c.args.c c.if-value-c.true) in
    count_full c.args.count c.args.c os c.args.known h is c.if-count-eq0-2.true (eqb-true c.args.count.passing c.args.count.pins e)

pub returns-then-count-gt0 : goal.returns-then-count-gt0
returns-then-count-gt0 c e os h =
    let is : c.args.known ≡ Some c.args.c = c.in-Some.is ∙ ap Some (never_other c.in-Some.value c.args.c c.if-value-c.false) in
    count_met c.args.count c.args.c os c.args.known h is c.if-count-gt0.true

pub returns-else-count-gt0 : goal.returns-else-count-gt0
returns-else-count-gt0 c e os h =
    let is : c.args.known ≡ Some c.args.c = c.in-Some.is ∙ ap Some (never_other c.in-Some.value c.args.c c.if-value-c.false) in
    let more : 1 < c.saturating_sub.result = ltb-true 1 c.saturating_sub.result e in
    let two : 1 < c.args.count.pins - c.args.count.passing = omega (arith, c.saturating_sub.ensures) in
    count_two c.args.count c.args.c os c.args.known h is two
