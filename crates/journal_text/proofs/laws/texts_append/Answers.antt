use Rattle.journal_text.proofs.Appending.{appended_none, appended_then, part_longer, part_none, part_then, part_whole, stopped_part, there_then}
use Rattle.journal_text.proofs.laws.texts_append.Goals as goal

pub returns : goal.returns
returns c = record {
  follows = appended_then;
  part = part_then;
  longer = part_longer;
  whole = part_whole;
  stays = there_then;
  none = appended_none;
  none_part = part_none;
  stopped = stopped_part;
}
