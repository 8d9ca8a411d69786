use Rattle.std.proofs.Common.{map, rules, string_bytes, Global}
use Rattle.clap.specs.Words.{app_of}
use Rattle.word_reading.proofs.FromAnswers.{fault_given, fault_refused, rows_given}
use Rattle.word_reading.proofs.reading.parse_words.Goals as goal

pub returns-in-Ok-try_get_matches_from-clause-ok : goal.returns-in-Ok-try_get_matches_from-clause-ok
returns-in-Ok-try_get_matches_from-clause-ok c = (
  fault_given (app_of c.in-Ok.program) (map (string_bytes {Z = Global}) c.args.words.now) c.in-Ok.ensures.shape c.in-Ok-try_get_matches_from.ensures.kinds,
  rows_given (app_of c.in-Ok.program) (map (string_bytes {Z = Global}) c.args.words.now) c.in-Ok-try_get_matches_from.matches c.in-Ok.ensures.shape c.in-Ok-try_get_matches_from.ensures.matches,
)

pub returns-clause-refused : goal.returns-clause-refused
returns-clause-refused c = λ refused. fault_refused (app_of c.in-Ok.program) (map (string_bytes {Z = Global}) c.args.words.now) c.in-Err-try_get_matches_from.error c.in-Ok.ensures.shape c.in-Err-try_get_matches_from.ensures.kinds (λ same. search rules)
