use Rattle.std.proofs.Common.{◌≡◌, ◌≤◌, ◌+◌, ◌-◌, length, drop}
use Rattle.blif_lines.specs.Inner.Cuts.{front}
use Rattle.blif_lines.proofs.scan.word_end.Given as goal
use Rattle.rm_base.specs.Words.{is_word_byte}

abbrev pub invariant-loop-i : goal.invariant-loop-i
invariant-loop-i l = record {
  within : l.i ≤ length l.text;
  counted : l.at + front is_word_byte (drop l.at l.text) ≡ l.i + front is_word_byte (drop l.i l.text);
}

abbrev pub decreases-loop-i : goal.decreases-loop-i
decreases-loop-i l = length l.text - l.i
