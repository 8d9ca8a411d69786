use Rattle.std.proofs.Common.{arith}
use Rattle.rar_loop.proofs.Filtering.{some_lane}
use Rattle.rar_loop.proofs.vectors.any.Goals as goal

pub returns : goal.returns
returns c = λ some. some_lane c.args.word (omega (arith, c.if-word-eq0.false)) c.ranges.word.fits
