use Rattle.closing_pass.proofs.Packing.{words_packed}
use Rattle.std.proofs.Common.{◌≡◌, arith}
use Rattle.closing_pass.proofs.words.words_of.Goals as goal

pub returns-clause-packed : goal.returns-clause-packed
returns-clause-packed c =
    let all : c.loop-source.source ≡ c.args.sources = omega (arith, c.loop-source.auto.source-end, c.loop-source-test.false) in
    words_packed c.args.vectors.now c.args.sources c.loop-source.words.items c.requires.long (rw all at c.loop-source.invariant)
