use Rattle.std.proofs.Common.{sym, ◌∙◌, true, false}
use Rattle.blif_lines.proofs.Pieces.{IsRun, IsEnd, bad_control, close_piece, word_piece_at, bad_slash_at, bad_before_at, join_alone_at, join_word_at}
use Rattle.blif_lines.proofs.scan.next_piece.Goals as goal
use Rattle.blif_lines.proofs.scan.next_piece.Goals.{else-start-slash-via-then-start-slash+else-text-slash-eq92, else-start-slash-via-else-start-slash}

pub returns-then-is_control_at : goal.returns-then-is_control_at
returns-then-is_control_at c =
    let r : IsRun c.args.text.now c.args.at c.skip_blanks-start.result c.word_end-end.result = record { start_is = c.skip_blanks-start.ensures.counted; end_is = c.word_end-end.ensures.counted; within = c.word_end-end.ensures.within } in
    bad_control c.args.text.now c.args.at c.skip_blanks-start.result c.word_end-end.result r (sym c.is_control_at.ensures ∙ c.if-is_control_at.true)

pub returns-then-start-end : goal.returns-then-start-end
returns-then-start-end c =
    let r : IsRun c.args.text.now c.args.at c.skip_blanks-start.result c.word_end-end.result = record { start_is = c.skip_blanks-start.ensures.counted; end_is = c.word_end-end.ensures.counted; within = c.word_end-end.ensures.within } in
    close_piece c.args.text.now c.args.at c.skip_blanks-start.result c.word_end-end.result r c.if-start-end.true (sym c.is_control_at.ensures ∙ c.if-is_control_at.false)

pub returns-then-text-end-ne92 : goal.returns-then-text-end-ne92
returns-then-text-end-ne92 c =
    let r : IsRun c.args.text.now c.args.at c.skip_blanks-start.result c.word_end-end.result = record { start_is = c.skip_blanks-start.ensures.counted; end_is = c.word_end-end.ensures.counted; within = c.word_end-end.ensures.within } in
    word_piece_at c.args.text.now c.args.at c.skip_blanks-start.result c.word_end-end.result r c.if-start-end.false (sym c.is_control_at.ensures ∙ c.if-is_control_at.false) c.if-text-end-ne92.true

pub returns-then-not-is_closed_at : goal.returns-then-not-is_closed_at
returns-then-not-is_closed_at c =
    let r : IsRun c.args.text.now c.args.at c.skip_blanks-start.result c.word_end-end.result = record { start_is = c.skip_blanks-start.ensures.counted; end_is = c.word_end-end.ensures.counted; within = c.word_end-end.ensures.within } in
    let e : IsEnd c.args.text.now c.word_end-end.result c.skip_blanks-after.result false = record { after_is = c.skip_blanks-after.ensures.counted; is = sym c.is_closed_at.ensures ∙ c.if-not-is_closed_at.true } in
    bad_slash_at c.args.text.now c.args.at c.skip_blanks-start.result c.word_end-end.result c.skip_blanks-after.result r c.if-start-end.false (sym c.is_control_at.ensures ∙ c.if-is_control_at.false) c.if-text-end-ne92.false e

pub returns-then-text-slash-eq92 : goal.returns-then-text-slash-eq92
returns-then-text-slash-eq92 c =
    let r : IsRun c.args.text.now c.args.at c.skip_blanks-start.result c.word_end-end.result = record { start_is = c.skip_blanks-start.ensures.counted; end_is = c.word_end-end.ensures.counted; within = c.word_end-end.ensures.within } in
    let e : IsEnd c.args.text.now c.word_end-end.result c.skip_blanks-after.result true = record { after_is = c.skip_blanks-after.ensures.counted; is = sym c.is_closed_at.ensures ∙ c.if-not-is_closed_at.false } in
    bad_before_at c.args.text.now c.args.at c.skip_blanks-start.result c.word_end-end.result c.skip_blanks-after.result r c.if-start-slash.true c.if-text-end-ne92.false c.if-text-slash-eq92.true e

pub returns : goal.returns
returns c =
    let r : IsRun c.args.text.now c.args.at c.skip_blanks-start.result c.word_end-end.result = record { start_is = c.skip_blanks-start.ensures.counted; end_is = c.word_end-end.ensures.counted; within = c.word_end-end.ensures.within } in
    let e : IsEnd c.args.text.now c.word_end-end.result c.skip_blanks-after.result true = record { after_is = c.skip_blanks-after.ensures.counted; is = sym c.is_closed_at.ensures ∙ c.if-not-is_closed_at.false } in
    elim c.else-start-slash.branch [
      | else-start-slash-via-then-start-slash+else-text-slash-eq92 w ↦ join_word_at c.args.text.now c.args.at c.skip_blanks-start.result c.word_end-end.result c.skip_blanks-after.result r w.if-start-slash.true c.if-text-end-ne92.false w.if-text-slash-eq92.false c.skip_blanks-after.ensures.within e
      | else-start-slash-via-else-start-slash w ↦ join_alone_at c.args.text.now c.args.at c.skip_blanks-start.result c.word_end-end.result c.skip_blanks-after.result r c.if-start-end.false w.if-start-slash.false c.if-text-end-ne92.false c.skip_blanks-after.ensures.within e
    ]
