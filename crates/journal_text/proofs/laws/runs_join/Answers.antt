use Rattle.journal_text.proofs.Joined.{accepted_each, accepted_then, made_sum, made_then, records_then, removals_then, steps_then, writable_then}
use Rattle.journal_text.proofs.laws.runs_join.Goals as goal

pub returns : goal.returns
returns c = record {
  text = records_then;
  steps = steps_then;
  made = made_then;
  counts = made_sum;
  removals = removals_then;
  writable = writable_then;
  accepted = accepted_then;
  each = accepted_each;
}
