use Rattle.std.proofs.Common.{◌≡◌, List, ℕ, ap, sym, subst, ◌∙◌, ◌++◌, reverse, slice_set, true}
use Rattle.std.specs.Prelude.{None, Some, slice_get}
use Rattle.rm_model.specs.Numbers.{place_of}
use Rattle.rm_model.specs.declared.parts.Cover.{Cover}
use Rattle.window_cut.proofs.Walks.{step_in, step_out}
use Rattle.window_cut.specs.Inner.Walk.{Steps, entered}
use Rattle.window_cut.specs.Order.{inputs_at}
use Rattle.window_cut.specs.declared.walk.Frame.{Frame}
use Rattle.window_cut.proofs.walk.take_step.Goals as goal

pub returns-in_ok-push-in-None : goal.returns-in_ok-push-in-None
returns-in_ok-push-in-None c =
    subst (λ (l : List ℕ). Steps c.args.model.now c.args.frame (reverse c.args.stack.now.items) c.args.order.now.items (reverse c.args.stack.now.items) l (slice_set c.args.marks.now c.args.frame.place true)) (sym c.in_ok-push-in-None.ensures.items)
    (step_out c.args.model.now c.requires.levelled.0 c.requires.levelled.1 c.args.frame (reverse c.args.stack.now.items) c.args.order.now.items c.args.marks.now
    (subst (λ (cs : List Cover). slice_get (inputs_at cs c.args.frame.place) c.args.frame.next ≡ None) c.items.ensures (sym c.in-None.ensures.at)) c.requires.place c.requires.within c.requires.marked)

pub returns-in_ok-enter-in-Some : goal.returns-in_ok-enter-in-Some
returns-in_ok-enter-in-Some c =
    step_in c.args.model.now c.requires.levelled.0 c.requires.levelled.1 c.args.frame c.args.stack.now.items c.enter.new.stack.items c.args.order.now.items c.args.marks.now c.args.table.now c.in-Some.name.now c.requires.table
    (subst (λ (cs : List Cover). slice_get (inputs_at cs c.args.frame.place) c.args.frame.next ≡ Some c.in-Some.name.now) c.items.ensures (sym c.in-Some.ensures.at))
    (c.in_ok-enter-in-Some.ensures ∙ ap (λ (l : List Frame). l ++ entered c.args.marks.now (place_of c.args.table.now c.in-Some.name.now)) c.in_ok-push-in-Some.ensures.items)
    c.requires.place c.requires.within c.requires.marked
