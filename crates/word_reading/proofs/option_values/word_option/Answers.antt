use Rattle.clap.specs.Words.{found_of}
use Rattle.word_reading.proofs.Getters.{number_got}
use Rattle.word_reading.proofs.option_values.word_option.Goals as goal

pub returns : goal.returns
returns c = number_got 32 (found_of c.args.given.now) c.args.key.now c.get_one.result c.get_one.ensures.none c.get_one.ensures.value
