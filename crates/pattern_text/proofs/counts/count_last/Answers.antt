use Rattle.std.proofs.Common.{ℕ, ◌≤◌, None, false, ap, subst, arith, length}
use Rattle.std.specs.Prelude.{slice_index_or}
use Rattle.std.proofs.lemmas.Option.{slice_get-get_or}
use Rattle.pattern_text.specs.Text.{detected_of, of_last, undecided_of}
use Rattle.pattern_text.proofs.Counting.{all_counted, last_detected_more, last_end, last_from, last_undecided_more, past_one}
use Rattle.pattern_text.proofs.counts.count_last.Goals as goal

pub loop-at-preserved : goal.loop-at-preserved
loop-at-preserved c =
    let first = slice_get-get_or c.args.firsts.now c.loop-at.at None (omega (arith, c.loop-at-test.true)) in
    let last = slice_get-get_or c.args.lasts.now c.loop-at.at false (omega (arith, c.loop-at-test.true)) in (
      last_detected_more c.args.firsts.now c.args.lasts.now c.loop-at.at (slice_index_or c.args.firsts.now c.loop-at.at None) (slice_index_or c.args.lasts.now c.loop-at.at false) c.loop-at.share.detected c.with_last-share.result.detected first last
          c.with_last-share.ensures.detected c.loop-at.invariant.0,
      last_undecided_more c.args.firsts.now c.args.lasts.now c.loop-at.at (slice_index_or c.args.firsts.now c.loop-at.at None) (slice_index_or c.args.lasts.now c.loop-at.at false) c.loop-at.share.undecided c.with_last-share.result.undecided first last
          c.with_last-share.ensures.undecided c.loop-at.invariant.1,
    )

pub returns-clause-detected : goal.returns-clause-detected
returns-clause-detected c =
    all_counted (detected_of (of_last c.args.firsts.now c.args.lasts.now)) (detected_of (last_from c.loop-at.at c.args.firsts.now c.args.lasts.now)) c.loop-at.share.detected c.loop-at.at
    (ap detected_of (last_end c.args.firsts.now c.args.lasts.now c.loop-at.at (past_one (length c.args.firsts.now) (length c.args.lasts.now) c.loop-at.at (subst (λ (n : ℕ). n ≤ c.loop-at.at) c.min-at-end.ensures c.loop-at-test.false)))) c.loop-at.invariant.0

pub returns-clause-undecided : goal.returns-clause-undecided
returns-clause-undecided c =
    all_counted (undecided_of (of_last c.args.firsts.now c.args.lasts.now)) (undecided_of (last_from c.loop-at.at c.args.firsts.now c.args.lasts.now)) c.loop-at.share.undecided c.loop-at.at
    (ap undecided_of (last_end c.args.firsts.now c.args.lasts.now c.loop-at.at (past_one (length c.args.firsts.now) (length c.args.lasts.now) c.loop-at.at (subst (λ (n : ℕ). n ≤ c.loop-at.at) c.min-at-end.ensures c.loop-at-test.false)))) c.loop-at.invariant.1
