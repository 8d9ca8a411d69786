use Rattle.std.proofs.Common.{drop}
use Rattle.pattern_text.specs.Text.{detected_of, undecided_of}
use Rattle.pattern_text.proofs.Counting.{IsCounted}
use Rattle.pattern_text.proofs.counts.count_all.Given as goal

abbrev pub invariant-loop-at : goal.invariant-loop-at
invariant-loop-at l =
    IsCounted (detected_of l.firsts) (detected_of (drop l.at l.firsts)) l.share.detected l.at × IsCounted (undecided_of l.firsts) (undecided_of (drop l.at l.firsts)) l.share.undecided l.at
