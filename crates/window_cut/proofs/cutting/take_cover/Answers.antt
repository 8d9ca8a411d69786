use Rattle.std.proofs.Common.{sym}
use Rattle.window_cut.proofs.Cuts.{closes, goes_on}
use Rattle.window_cut.proofs.cutting.take_cover.Goals as goal

pub returns-in_ok-begin_next : goal.returns-in_ok-begin_next
returns-in_ok-begin_next c =
    closes c.args.covers.now c.args.width c.ranges.width.fits c.args.cutting.now c.push_cover.new.cutting c.begin_next.new.cutting c.in-Some.cover.now c.args.place (sym c.in-Some.ensures) c.requires
    (record { windows = c.push_cover.ensures.windows; least = c.push_cover.ensures.least; begun = c.in_ok-push_cover.ensures.begun; weight = c.in_ok-push_cover.ensures.weight })
    c.if-cutting.true
    (record { windows = c.in_ok-begin_next.ensures.windows; begun = c.in_ok-begin_next.ensures.begun; weight = c.in_ok-begin_next.ensures.weight; least = c.in_ok-begin_next.ensures.least })

pub returns-else-cutting : goal.returns-else-cutting
returns-else-cutting c =
    goes_on c.args.covers.now c.args.width c.ranges.width.fits c.args.cutting.now c.push_cover.new.cutting c.in-Some.cover.now c.args.place (sym c.in-Some.ensures) c.requires
    (record { windows = c.push_cover.ensures.windows; least = c.push_cover.ensures.least; begun = c.in_ok-push_cover.ensures.begun; weight = c.in_ok-push_cover.ensures.weight })
    c.if-cutting.false
