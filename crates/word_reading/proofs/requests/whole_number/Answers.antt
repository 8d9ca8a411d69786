use Rattle.std.proofs.Common.{◌∙◌}
use Rattle.word_reading.proofs.Getters.{parsed}
use Rattle.word_reading.proofs.requests.whole_number.Goals as goal

pub returns : goal.returns
returns c = c.ok.ensures.value ∙ parsed c.args.text.now c.parse.result c.parse.ensures.value.0
