use Rattle.std.proofs.Common.{◌≡◌, ◌<◌, ◌∙◌, ◌-◌, ◌^◌, List, ℕ, sym, subst, length, refl, ap, arith, rules}
use Rattle.blif_flatten.specs.Inner.Ranks.{AreFalling}
use Rattle.blif_flatten.specs.Inner.Rounds.{height_of, heights}
use Rattle.blif_flatten.proofs.Heights.{heights-next, heights-fall, room-of}
use Rattle.blif_flatten.proofs.rounds.heights_by_rounds.Goals as goal

pub loop-init : goal.loop-init
loop-init c = c.new-all.ensures.items

pub loop-preserved : goal.loop-preserved
loop-preserved c = heights-next c.args.modules.now c.loop.counter c.in_ok-all.all.items (c.in_ok-all.ensures ∙ ap (λ (row : List ℕ). height_of (2 ^ 64 - 1) row c.args.modules.now) (c.as_slice.ensures.value ∙ c.loop.invariant))

pub returns : goal.returns
returns c =
    let low = c.loop-test.false in
    let high = c.loop.auto.counter-end in
    let is : c.loop.counter ≡ length c.args.modules.now = omega (arith, low, high) in
    let small : length c.loop.all.items < 2 ^ 63 = first_of (omega (arith, c.loop.all.small), search (rules, c.loop.all.small), grind (arith, c.loop.all.small, c.loop.all.ok)) in
    subst (λ all. AreFalling all c.args.modules.now) (sym (c.loop.invariant ∙ ap (λ n. heights (2 ^ 64 - 1) n c.args.modules.now) is))
    (heights-fall c.args.modules.now c.requires.known c.requires.calm (2 ^ 64 - 1) (room-of c.args.modules.now c.loop.all.items c.loop.counter is c.loop.invariant small))
