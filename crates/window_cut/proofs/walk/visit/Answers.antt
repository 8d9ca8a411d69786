use Rattle.std.proofs.Common.{◌++◌, List, ap, ◌∙◌}
use Rattle.rm_model.specs.Numbers.{place_of}
use Rattle.window_cut.proofs.Walks.{walk_start}
use Rattle.window_cut.specs.Inner.Walk.{entered}
use Rattle.window_cut.specs.declared.walk.Frame.{Frame}
use Rattle.window_cut.proofs.walk.visit.Goals as goal

pub loop-frame-init : goal.loop-frame-init
loop-frame-init c =
    walk_start c.args.model.now c.requires.levelled.0 c.requires.levelled.1 c.enter.new.stack.items c.args.order.now.items c.args.marks.now c.args.table.now c.args.name.now c.requires.table
    (c.in_ok-enter.ensures ∙ ap (λ (l : List Frame). l ++ entered c.args.marks.now (place_of c.args.table.now c.args.name.now)) c.new-stack.ensures.items)
    c.requires.marked
