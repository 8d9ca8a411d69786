use Rattle.pattern_text.specs.Text.{detected_of, of_last, undecided_of}
use Rattle.pattern_text.proofs.Counting.{IsCounted, last_from}
use Rattle.pattern_text.proofs.counts.count_last.Given as goal

abbrev pub invariant-loop-at : goal.invariant-loop-at
invariant-loop-at l =
    IsCounted (detected_of (of_last l.firsts l.lasts)) (detected_of (last_from l.at l.firsts l.lasts)) l.share.detected l.at
    × IsCounted (undecided_of (of_last l.firsts l.lasts)) (undecided_of (last_from l.at l.firsts l.lasts)) l.share.undecided l.at
