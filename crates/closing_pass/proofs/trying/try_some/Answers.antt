use Rattle.std.proofs.Common.{◌+◌, ◌-◌, ◌∙◌, ℕ, List, drop, take, sym, subst, arith}
use Rattle.closing_pass.specs.Inner.Trying.{AreInLanes}
use Rattle.closing_pass.proofs.Packing.{lanes_are}
use Rattle.closing_pass.proofs.Standing.{stands_dropped, taken_stands}
use Rattle.closing_pass.proofs.trying.try_some.Goals as goal

pub try_on_each-requires-clause-packed : goal.try_on_each-requires-clause-packed
try_on_each-requires-clause-packed c =
    subst (λ (ws : List ℕ). AreInLanes c.args.kept.now c.args.first c.args.count ws) (sym (c.simulate64.ensures.words ∙ c.as_slice.ensures.value))
    (lanes_are c.args.kept.now (take (c.args.first + c.args.count - c.args.first) (drop c.args.first c.args.kept.now)) c.args.first c.args.count c.in_ok-words.words.items
    (λ i lt. taken_stands (drop c.args.first c.args.kept.now) (c.args.first + c.args.count - c.args.first) i (omega (arith, lt)) ∙ stands_dropped c.args.kept.now c.args.first i) c.requires.numbers c.in_ok-words.ensures.packed)
