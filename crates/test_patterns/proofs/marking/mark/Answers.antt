use Rattle.std.proofs.lemmas.Option.{slice_get-get_or}
use Rattle.test_patterns.proofs.Marked.{marked_none}
use Rattle.test_patterns.proofs.marking.mark.Goals as goal

pub loop-place-init : goal.loop-place-init
loop-place-init c = marked_none c.args.caught.now c.args.lane c.args.pattern c.args.firsts.now.items

pub loop-place-preserved : goal.loop-place-preserved
loop-place-preserved c = c.mark_one-any.ensures c.args.caught.now c.loop-place.place c.args.firsts.now.items (slice_get-get_or c.args.caught.now c.loop-place.place _ c.loop-place-test.true) c.loop-place.invariant
