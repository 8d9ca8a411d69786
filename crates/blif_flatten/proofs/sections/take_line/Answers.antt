use Rattle.std.proofs.Common.{◌∙◌, sym, get_or}
use Rattle.blif_flatten.proofs.Layouts.{misplaced, read-on, some-first}
use Rattle.blif_flatten.proofs.sections.take_line.Goals as goal

pub returns-then-is_misplaced-clause-err : goal.returns-then-is_misplaced-clause-err
returns-then-is_misplaced-clause-err c = λ rest left had step.
    let out = c.is_misplaced.ensures.misplaced c.if-is_misplaced.true in
    misplaced c.args.text.now rest left c.args.line.now c.args.sections.now.items (get_or c.args.line.now 0 (record { start = 0; end = 0; place = record { line = 0; column = 0 } })) had step (sym c.as_slice.ensures.value ∙ out.0) out.1 (some-first c.args.line.now (record { start = 0; end = 0; place = record { line = 0; column = 0 } }) c.requires.some)

pub returns-in-Ok-clause-ok : goal.returns-in-Ok-clause-ok
returns-in-Ok-clause-ok c = λ rest left had step.
    read-on c.args.text.now rest left c.args.line.now c.args.sections.now.items c.push_line.new.sections.items had step c.in-Ok.ensures.lines (c.in-Ok.ensures.within had.within)
    c.in-Ok.ensures.some c.in-Ok.ensures.kept
    (λ none. c.is_misplaced.ensures.placed c.if-is_misplaced.false (c.as_slice.ensures.value ∙ none))
