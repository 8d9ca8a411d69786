use Rattle.std.proofs.Common.{length}
use Rattle.rm_base.proofs.Public.{read_stands}
use Rattle.blif_flatten.specs.Inner.Ranks.{Falls}
use Rattle.blif_flatten.proofs.Falling.{one-place-more, all-places}
use Rattle.blif_flatten.proofs.ranks.are_falling.Goals as goal

pub loop-place-preserved : goal.loop-place-preserved
loop-place-preserved c = one-place-more (λ k m. Falls c.args.numbers.now (length c.args.modules.now) k m) c.args.modules.now c.loop-place.place c.index-modules-place.result (read_stands c.args.modules.now c.loop-place.place c.index-modules-place.result c.loop-place-test.true c.index-modules-place.is) c.loop-place.invariant (c.falls.ensures c.if-not-falls.false)

pub returns : goal.returns
returns c = λ _. all-places (λ k m. Falls c.args.numbers.now (length c.args.modules.now) k m) c.args.modules.now c.loop-place.place c.loop-place-test.false c.loop-place.invariant
