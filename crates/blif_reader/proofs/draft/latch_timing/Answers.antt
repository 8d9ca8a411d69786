use Rattle.blif_reader.proofs.LatchLaws.{timing_some, timing_none}
use Rattle.blif_reader.proofs.draft.latch_timing.Goals as goal

pub returns-in-Ok-clause-words : goal.returns-in-Ok-clause-words
returns-in-Ok-clause-words c h = timing_some c.args.text.now c.args.words.now (record { start = 0; end = 0; place = record { line = 0; column = 0 } }) c.in-Ok.timing c.if-words-gt3.true c.in-Ok.ensures.words h

pub returns-clause-words : goal.returns-clause-words
returns-clause-words c h = timing_none c.args.text.now c.args.words.now c.if-words-gt3.false h
