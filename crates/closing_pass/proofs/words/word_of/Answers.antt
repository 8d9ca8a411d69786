use Rattle.std.proofs.Common.{◌≡◌, ◌<◌, refl, Some, slice_get, length, arith}
use Rattle.std.proofs.lemmas.Option.{slice_get_read, slice_get_within}
use Rattle.closing_pass.proofs.Packing.{word_more}
use Rattle.closing_pass.proofs.words.word_of.Goals as goal

pub loop-place-preserved : goal.loop-place-preserved
loop-place-preserved c =
    let there : slice_get c.args.vectors.now c.loop-place.place ≡ Some c.index-vectors-place.result =
    slice_get_read c.args.vectors.now (length c.args.vectors.now) c.loop-place.place c.index-vectors-place.result refl c.loop-place-test.true c.index-vectors-place.is in
    rw c.with_bit-word.ensures (word_more c.args.vectors.now c.args.source.0 c.loop-place.place c.loop-place.word c.index-vectors-place.result c.get-value.result c.loop-place.invariant there c.get-value.ensures)

pub returns : goal.returns
returns c = λ i v is.
    let lt : i < length c.args.vectors.now = slice_get_within c.args.vectors.now i v is in
    c.loop-place.invariant.lanes i v (omega (arith, lt, c.loop-place-test.false)) is
