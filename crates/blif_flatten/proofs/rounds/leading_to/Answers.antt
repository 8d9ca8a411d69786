use Rattle.std.proofs.Common.{◌≡◌, ◌∙◌, Bool, List, ap, arith, subst}
use Rattle.blif_flatten.specs.Inner.Rounds.{leads_after}
use Rattle.blif_flatten.proofs.Heights.{AreLeadingBy, leading-first, leading-next}
use Rattle.blif_flatten.proofs.rounds.leading_to.Goals as goal

pub loop-init : goal.loop-init
loop-init c = leading-first c.args.modules.now c.args.to c.in_ok-leading.leading.items c.in_ok-leading.ensures

pub loop-preserved : goal.loop-preserved
loop-preserved c = leading-next c.args.modules.now c.args.to c.loop.counter c.loop.leading.items c.in_ok-leading-2.leading.items c.loop.invariant (c.in_ok-leading-2.ensures ∙ ap (λ (row : List Bool). leads_after row c.args.to c.args.modules.now) c.as_slice.ensures.value)

pub returns : goal.returns
returns c =
    let low = c.loop-test.false in
    let high = c.loop.auto.counter-end in
    subst (λ n. AreLeadingBy c.args.modules.now c.args.to n c.loop.leading.items) (omega (arith, low, high)) c.loop.invariant
